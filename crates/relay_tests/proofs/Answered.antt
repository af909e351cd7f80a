-- What a connection does over a keeper of a relay.
use Rattle.std.proofs.Common.{◌≡◌, ◌≢◌, ◌⊎◌, inl, inr, ℕ, true, false, cond, List, [], ◌∷◌, Result, Ok, Err, refl, sym, ap, ◌∙◌, subst}
use Rattle.c960_game.specs.declared.ending.Ending.TheVariants.{Abandoned}
use Rattle.c960_game.specs.declared.refusal.Refusal.{Refusal}
use Rattle.c960_game.specs.declared.refusal.Refusal.TheVariants as refusals
use Rattle.c960_game.specs.Limits.{LimitNumbers}
use Rattle.relay_core.specs.declared.step.Step.{Step}
use Rattle.relay_core.specs.declared.step.Step.TheVariants.{Open, Submit, End, Follow, Take, Leave}
use Rattle.relay_core.specs.declared.reply.Reply.{Reply}
use Rattle.relay_core.specs.declared.reply.Reply.TheVariants.{Refused}
use Rattle.relay_core.specs.History.{History}
use Rattle.relay_core.specs.Replies.{IsAllowed, reply_to}
use Rattle.relay_core.specs.Stands.{Stands}
use Rattle.relay_core.specs.State.{RelayRecord}
use Rattle.relay_core.proofs.lemmas.Grounds.{sure}
use Rattle.relay_messages.specs.declared.answer.Answer.{Answer}
use Rattle.relay_messages.specs.declared.answer.Answer.TheVariants as answers
use Rattle.relay_messages.specs.declared.fault.MessageFault.{MessageFault}
use Rattle.relay_messages.specs.declared.fault.MessageFault.TheVariants as faults
use Rattle.relay_messages.specs.Answers.{answer_text}
use Rattle.relay_messages.specs.Decoding.{IsDecoding, decoded}
use Rattle.relay_pushing.specs.Connections as conn
use Rattle.relay_tests.specs.Asked.{IsAnswered, IsAsked, IsAt, IsUnanswered, abandoned, answer_asked, are_none, boards_asked, history_asked, may_make, not_its_own, why_not}
use Rattle.relay_tests.specs.Keeping.{Tells, Makes}

-- a text that was read as a step means it
read : (text : List ℕ) (step : Step) → IsDecoding text (Ok step) → decoded text ≡ Ok step
read text step (inl e) = sym e
read text step (inr m) = let never = m.1 in cc

not_none : (boards : List (List ℕ)) → boards ≢ [] → are_none boards ≡ false
not_none [] f = absurd (f refl)
not_none (x ∷ xs) f = refl

-- a board that a connection over this keeper may play on is one that it opened
own : (k : RelayRecord) (boards : List (List ℕ)) (b : List ℕ) → conn.IsOwn (Tells k) boards b → conn.is_among b boards ≡ true
own k boards b (inl e) = e
own k boards b (inr e) = cc

may : (k : RelayRecord) (boards : List (List ℕ)) (step : Step) → conn.MayMake (Tells k) boards step → may_make boards step ≡ true
may k boards (Open b n) m = refl
may k boards (Submit b x) m = own k boards b m
may k boards (End b x) m = own k boards b m
may k boards (Follow who b from) m = ap are_none m.0
may k boards (Take who) m = absurd m
may k boards (Leave who) m = absurd m

-- a connection that is barred from following has opened a board
has_opened : (k : RelayRecord) (boards : List (List ℕ)) → ((boards ≢ []) ⊎ Tells k conn.OwnsAny true) → are_none boards ≡ false
has_opened k boards (inl e) = not_none boards e
has_opened k boards (inr e) = cc

module _ (limits : LimitNumbers) (h : History) (k : RelayRecord) (st : Stands limits k h) (boards : List (List ℕ)) where
  -- ---- What the connection may not do.

  foreign : (b : List ℕ) (refusal : Refusal) → conn.IsForeign (Tells k) boards b refusal → refusal ≡ not_its_own h b
  foreign b refusal f = f.reason ∙ ap (λ t. cond t refusals.NotYourBoard refusals.NoSuchBoard) (f.told limits h st)

  bars : (step : Step) (refusal : Refusal) → conn.Bars (Tells k) boards step refusal
      → (may_make boards step ≡ false) × (refusal ≡ why_not h step)
  bars (Open b n) refusal f = absurd f
  bars (Submit b x) refusal f = (f.foreign, foreign b refusal f)
  bars (End b x) refusal f = (f.foreign, foreign b refusal f)
  bars (Follow who b from) refusal f = (has_opened k boards f.0, f.1)
  bars (Take who) refusal f = (refl, f)
  bars (Leave who) refusal f = (refl, f)

  -- ---- What was made.

  unmoved : (now : List (List ℕ)) (later : RelayRecord) → conn.IsUnmoved boards k now later → IsAt limits h boards later now
  unmoved now later u = record {
    stands = subst (λ (r : RelayRecord). Stands limits r h) (sym u.keeper_is) st;
    boards_are = u.boards_are;
  }

  module _ (text bytes : List ℕ) (now : List (List ℕ)) (later : RelayRecord) where
    -- a text that means this got this answer, and this was made
    asked : (said : Result Step MessageFault) → decoded text ≡ said → bytes ≡ answer_text (answer_asked limits h boards said)
        → IsAt limits (history_asked limits h boards said) (boards_asked limits h boards said) later now
        → IsAsked limits h boards text bytes later now
    asked said e is_text made = record {
      text_is = is_text ∙ ap (λ d. answer_text (answer_asked limits h boards d)) (sym e);
      made = subst (λ (d : Result Step MessageFault). IsAt limits (history_asked limits h boards d) (boards_asked limits h boards d) later now) (sym e) made;
    }

    fault_told : (fault : MessageFault) → IsDecoding text (Err fault) → conn.IsUnmoved boards k now later
        → bytes ≡ answer_text (answers.Fault fault) → IsAnswered limits h boards text bytes later now
    fault_told fault (inl e) u is_text = inl (asked (Err fault) (sym e) is_text (unmoved now later u))
    fault_told fault (inr m) u is_text =
        let want : fault ≡ faults.OutOfMemory = let e = m.1 in cc in
        inr (inl (record {
          short = m.0;
          text_is = is_text ∙ ap (λ f. answer_text (answers.Fault f)) want;
          made = unmoved now later u;
        }))

    reply_told : (step : Step) (reply : Reply) → decoded text ≡ Ok step → conn.Made (Tells k) Makes boards k step reply now later
        → bytes ≡ answer_text (answers.Reply reply) → IsAllowed limits h step reply → IsAnswered limits h boards text bytes later now
    reply_told step reply said made is_text (inl e) =
        let can = may k boards step made.may in
        inl (asked (Ok step) said
        (rw can (is_text ∙ ap (λ r. answer_text (answers.Reply r)) e))
        (rw can (record {
          stands = subst (λ (r : Reply). Stands limits later ((step, r) ∷ h)) e (made.made limits h st);
          boards_are = made.boards_are ∙ ap (conn.opened_after boards step) e;
        })))
    reply_told step reply said made is_text (inr w) =
        inr (inr (record {
          step = step;
          said = said;
          may = may k boards step made.may;
          wants = (w.0, w.1, refl);
          text_is = is_text ∙ ap (λ r. answer_text (answers.Reply r)) w.2;
          made = record {
            stands = subst (λ (r : Reply). Stands limits later ((step, r) ∷ h)) w.2 (made.made limits h st);
            boards_are = made.boards_are ∙ ap (conn.opened_after boards step) w.2;
          };
        }))

    refusal_told : (step : Step) (reply : Reply) → decoded text ≡ Ok step → conn.Barred (Tells k) boards k step reply now later
        → bytes ≡ answer_text (answers.Reply reply) → IsAnswered limits h boards text bytes later now
    refusal_told step reply said barred is_text =
        let why = bars step barred.refusal barred.bars in
        inl (asked (Ok step) said
        (rw why.0 (is_text ∙ ap (λ r. answer_text (answers.Reply r)) (barred.reply_is ∙ ap Refused why.1)))
        (rw why.0 (unmoved now later barred.unmoved)))

    leads : (answer : Answer) → conn.Leads (Tells k) Makes boards k text answer now later → bytes ≡ answer_text answer
        → IsAnswered limits h boards text bytes later now
    leads (answers.Fault fault) l is_text = fault_told fault l.0 l.1 is_text
    leads (answers.Reply reply) l is_text =
        elim l.2 [
          | inl made ↦ reply_told l.0 reply (read text l.0 l.1) made is_text (made.made limits h st).lawful.0
          | inr barred ↦ refusal_told l.0 reply (read text l.0 l.1) barred is_text
        ]

-- ---- The calls.

pub answered : (k : RelayRecord) (boards : List (List ℕ)) (text bytes : List ℕ) (now : List (List ℕ)) (later : RelayRecord)
    → conn.Answered (Tells k) Makes boards k text bytes now later
    → (limits : LimitNumbers) (h : History) → Stands limits k h → IsAnswered limits h boards text bytes later now
answered k boards text bytes now later a limits h st = leads limits h k st boards text bytes now later a.0 a.1 a.2

pub unanswered : (k : RelayRecord) (boards : List (List ℕ)) (text : List ℕ) (now : List (List ℕ)) (later : RelayRecord)
    → conn.Stopped (Tells k) Makes boards k text now later
    → (limits : LimitNumbers) (h : History) → Stands limits k h → IsUnanswered limits h boards text later now
unanswered k boards text now later (inl s) limits h st =
    inl (record {
      step = s.0;
      reply = s.1;
      said = read text s.0 s.2;
      may = may k boards s.0 s.3.may;
      made = record {
        stands = s.3.made limits h st;
        boards_are = s.3.boards_are;
      };
    })
unanswered k boards text now later (inr u) limits h st = inr (unmoved limits h k st boards now later u)

pub abandons : (k : RelayRecord) (boards : List (List ℕ)) (later : RelayRecord) → conn.Ends Makes k boards later
    → (limits : LimitNumbers) (h : History) → Stands limits k h → Stands limits later (abandoned limits h boards)
abandons k [] later e limits h st = subst (λ (r : RelayRecord). Stands limits r h) (sym e) st
abandons k (b ∷ bs) later e limits h st =
    let new = e.2 limits h st in
    let same = sure limits h (End b Abandoned) e.1 refl new.lawful.0 in
    abandons e.0 bs later e.3 limits ((End b Abandoned, reply_to limits h (End b Abandoned)) ∷ h)
    (subst (λ (r : Reply). Stands limits e.0 ((End b Abandoned, r) ∷ h)) same new)
