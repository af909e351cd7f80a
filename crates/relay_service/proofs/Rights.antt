-- Whoever moves or ends a board owns it: a step is made only if its connection may make it.
use Rattle.std.proofs.Common.{◌≡◌, ◌⊎◌, ◌||◌, ℕ, zero, suc, Bool, true, false, true≢false, cond, List, [], ◌∷◌, ◌++◌, append-nil, length, is_some, Option, None, Some, option_map, Result, Ok, Err, inl, inr, refl, sym, ap, ◌∙◌, subst}
use Rattle.std.proofs.lemmas.Option.{none-some}
use Rattle.std.specs.Map.{lookup}
use Rattle.c960_game.specs.declared.refusal.Refusal.{Refusal}
use Rattle.c960_game.specs.Limits.{LimitNumbers}
use Rattle.relay_core.proofs.lemmas.Lists.{first_some, lookup-map, lookup-push}
use Rattle.relay_core.proofs.lemmas.Names.{is_same_name, same_name_is}
use Rattle.relay_core.proofs.lemmas.Refusals.{nothing, opened_where}
use Rattle.relay_core.specs.declared.reply.Reply.{Reply}
use Rattle.relay_core.specs.declared.step.Step.{Step}
use Rattle.relay_core.specs.declared.step.Step.TheVariants.{Open, Submit, End, Follow, Take, Leave}
use Rattle.relay_core.specs.History.{History, is_accepted}
use Rattle.relay_core.specs.Name.{same_name}
use Rattle.relay_frames.specs.Events.{Told, fragment, text, binary, ping, pong, closed, broken}
use Rattle.relay_messages.specs.declared.answer.Answer.{Answer}
use Rattle.relay_messages.specs.declared.fault.MessageFault.{MessageFault}
use Rattle.relay_messages.specs.Decoding.{decoded}
use Rattle.relay_pushing.specs.Connections.{Owns, is_among, opened_after}
use Rattle.relay_hall.specs.declared.handed.Handed.{Handed}
use Rattle.relay_hall.specs.declared.owner.Owner.{Owner}
use Rattle.relay_hall.specs.Meeting.{BoardsStay}
use Rattle.relay_hall.specs.Record.{FloorRecord, HallBoard, HallRecord, games_of, nobody_yet}
use Rattle.relay_hall.specs.Runs.{HallEvent, HallRuns, HallStep, HallTold, IsOneStep, Replied, Says, history_after}
use Rattle.relay_hall.specs.Steps.{Makes, OpensAs, answer_to_open, is_owned, new_board, tells_of}
use Rattle.relay_hall.specs.Talk.{IsAnsweredBy, IsUnansweredBy, IsUnmade, IsUnread, SaidAnswered, StepReplied, may_make}
use Rattle.relay_hall.proofs.lemmas.Staying.{made_stay}
use Rattle.relay_service.specs.Calling.Answering.{AnswersNext, EventAnswered, EventUnanswered, Fails, OperatorRecord, Stays}
use Rattle.relay_service.specs.Inner.{AreOpened}
use Rattle.relay_service.specs.Rights.{AreRightful, IsRightful, IsRightfulStep, OwnsBoard}

-- ---- A run.

-- one event more, of whoever had the right; so many of the first need none
pub run_then : (n : ℕ) (k : HallRecord) (h : History) (es : List HallEvent) (ts : List HallTold) (g : History) (l : HallRecord) (r : HallRuns k h es ts g l) → AreRightful n k h es ts g l r
    → (e : HallEvent) (t : HallTold) (m : HallRecord) → HallStep l e t m → IsRightful l e
    → (q : HallRuns k h (es ++ e ∷ []) (ts ++ t ∷ []) (history_after l e t m g) m) × AreRightful n k h (es ++ e ∷ []) (ts ++ t ∷ []) (history_after l e t m g) m q
run_then n k h [] [] g l (g-is, l-is) rights e t m s right = (
  (m, subst (λ (x : HallRecord). HallStep x e t m) l-is s, ((λ i. history_after (l-is i) e t m (g-is i)), refl)),
  last n,
)
  where
    last : (n : ℕ) → AreRightful n k h (e ∷ []) (t ∷ []) (history_after l e t m g) m (m, subst (λ (x : HallRecord). HallStep x e t m) l-is s, ((λ i. history_after (l-is i) e t m (g-is i)), refl))
    last zero = (subst (λ (x : HallRecord). IsRightful x e) l-is right, tt)
    last (suc n) = tt
run_then n k h [] (u ∷ ts) g l r rights e t m s right = absurd r
run_then n k h (d ∷ es) [] g l r rights e t m s right = absurd r
run_then zero k h (d ∷ es) (u ∷ ts) g l (mid, first, r) (one, rights) e t m s right =
    let q = run_then zero mid (history_after k d u mid h) es ts g l r rights e t m s right in ((mid, first, q.0), (one, q.1))
run_then (suc n) k h (d ∷ es) (u ∷ ts) g l (mid, first, r) rights e t m s right =
    let q = run_then n mid (history_after k d u mid h) es ts g l r rights e t m s right in ((mid, first, q.0), q.1)

-- the same hall
pub run_as : (n : ℕ) (limits : LimitNumbers) (grace : ℕ) (es : List HallEvent) (ts : List HallTold) (h : History) (k l : HallRecord) → l ≡ k → (r : HallRuns (nobody_yet limits grace) [] es ts h k)
    → AreRightful n (nobody_yet limits grace) [] es ts h k r
    → (q : HallRuns (nobody_yet limits grace) [] es ts h l) × AreRightful n (nobody_yet limits grace) [] es ts h l q
run_as n limits grace es ts h k l same r rights =
    subst (λ (m : HallRecord). (q : HallRuns (nobody_yet limits grace) [] es ts h m) × AreRightful n (nobody_yet limits grace) [] es ts h m q) (sym same) (r, rights)

-- ---- What a text makes, with the right to it.

-- a step that this one may make was made, after which it has opened these boards; or nothing has changed
abbrev pub IsOneRightStep : HallRecord → Owner → List (List ℕ) → Option Handed → HallRecord → List (List ℕ) → Type 0
IsOneRightStep k who opened handed l now =
    ((step : Step) × (reply : Reply) × HallStep k (Says who step) (Replied reply handed) l × (may_make k.floor who opened step ≡ true) × (now ≡ opened_after opened step reply))
    ⊎ ((l ≡ k) × (handed ≡ None) × (now ≡ opened))

-- which is one step or none
pub one_step : (k : HallRecord) (who : Owner) (opened : List (List ℕ)) (handed : Option Handed) (l : HallRecord) (now : List (List ℕ)) → IsOneRightStep k who opened handed l now → IsOneStep k who handed l
one_step k who opened handed l now (inl (step, reply, made, may, now-is)) = inl (step, reply, made)
one_step k who opened handed l now (inr (same, none, now-is)) = inr (same, none)

module _ (k l : HallRecord) (rest : l ≡ record k { floor = l.floor }) (who : Owner) (opened : List (List ℕ)) (handed : Option Handed) (now : List (List ℕ)) where
  unmade : IsUnmade k.floor opened handed l.floor now → IsOneRightStep k who opened handed l now
  unmade (none, is, now-is) = inr (rest ∙ ap (λ (f : FloorRecord). record k { floor = f }) is, none, now-is)

  stepped : (step : Step) (reply : Reply) (may : Bool) → may_make k.floor who opened step ≡ may → StepReplied may k.floor who opened step reply handed l.floor now
      → IsOneRightStep k who opened handed l now
  stepped step reply true may (makes, now-is) = inl (step, reply, (makes, rest), may, now-is)
  stepped step reply false may (reply-is, u) = unmade u

  said : (d : Result Step MessageFault) (answer : Answer) → SaidAnswered k.floor who opened d answer handed l.floor now → IsOneRightStep k who opened handed l now
  said (Ok step) answer (reply, answer-is, r) = stepped step reply (may_make k.floor who opened step) refl r
  said (Err fault) answer (answer-is, u) = unmade u

  module _ (s : List ℕ) where
    by : (answer : Answer) → SaidAnswered k.floor who opened (decoded s) answer handed l.floor now ⊎ IsUnread k.floor opened s answer handed l.floor now
        → IsOneRightStep k who opened handed l now
    by answer (inl a) = said (decoded s) answer a
    by answer (inr (long, answer-is, u)) = unmade u

    answered : (bytes : List ℕ) → IsAnsweredBy k.floor who opened s bytes handed l.floor now → IsOneRightStep k who opened handed l now
    answered bytes (answer, bytes-are, a) = by answer a

    unanswered : IsUnansweredBy k.floor who opened s handed l.floor now → IsOneRightStep k who opened handed l now
    unanswered (inl (step, reply, means, may, makes, now-is)) = inl (step, reply, (makes, rest), may, now-is)
    unanswered (inr u) = unmade u

module _ (k : HallRecord) (who : Owner) (boards : List (List ℕ)) (handed : Option Handed) (l : HallRecord) (now : List (List ℕ)) where
  stays_right : Stays k boards handed l now → IsOneRightStep k who boards handed l now
  stays_right (none, same, opened) = inr (same, none, opened)

  event_right : (t : Told) (frames : List ℕ) → EventAnswered k who boards t frames handed l now → IsOneRightStep k who boards handed l now
  event_right (text s) frames (bytes, a, rest, is) = answered k l rest who boards handed now s bytes a
  event_right fragment frames (is, stays) = stays_right stays
  event_right (binary bytes) frames (is, stays) = stays_right stays
  event_right (ping bytes) frames (is, stays) = stays_right stays
  event_right (pong bytes) frames (is, stays) = stays_right stays
  event_right (closed number) frames (is, stays) = stays_right stays
  event_right (broken breach) frames (is, stays) = stays_right stays

  lost_right : (t : Told) → EventUnanswered k who boards t handed l now → IsOneRightStep k who boards handed l now
  lost_right (text s) (inl un, rest) = unanswered k l rest who boards handed now s un
  lost_right (text s) (inr (bytes, a), rest) = answered k l rest who boards handed now s bytes a
  lost_right fragment stays = stays_right stays
  lost_right (binary bytes) stays = stays_right stays
  lost_right (ping bytes) stays = stays_right stays
  lost_right (pong bytes) stays = stays_right stays
  lost_right (closed number) stays = stays_right stays
  lost_right (broken breach) stays = stays_right stays

pub answers_right : (some : Bool) (c : OperatorRecord) (k : HallRecord) (handed : Option Handed) (l : HallRecord) (d : OperatorRecord) → AnswersNext some c k handed l d
    → IsOneRightStep k c.who c.boards handed l d.boards
answers_right true c k handed l d (t, asking, says, (frames, (answer, is, met), then)) = event_right k c.who c.boards handed l d.boards t answer is
answers_right false c k handed l d (none, same, stays, more) = inr (same, none, ap (λ (e : OperatorRecord). e.boards) stays)

pub fails_right : (c : OperatorRecord) (k : HallRecord) (handed : Option Handed) (l : HallRecord) (d : OperatorRecord) → Fails c k handed l d → IsOneRightStep k c.who c.boards handed l d.boards
fails_right c k handed l d (inl (none, same, stays)) = inr (same, none, ap (λ (e : OperatorRecord). e.boards) stays)
fails_right c k handed l d (inr (t, asking, says, (un, then))) = lost_right k c.who c.boards handed l d.boards t un

-- ---- Whose the boards are.

pub opened_still : (f g : FloorRecord) (who : Owner) (opened : List (List ℕ)) → BoardsStay f g → AreOpened f who opened → AreOpened g who opened
opened_still f g who opened stay are name among =
    let a = are name among in
    let s = stay name a.0 a.1 in (s.0, s.1, s.2.owner ∙ a.2)

among_then : (q : List ℕ) (opened : List (List ℕ)) (name : List ℕ) → is_among q (opened ++ name ∷ []) ≡ true → (is_among q opened ≡ true) ⊎ (same_name name q ≡ true)
among_then q [] name is = inr (by (same_name name q) is)
  where
    by : (b : Bool) → (b || false) ≡ true → b ≡ true
    by true h = refl
    by false h = h
among_then q (x ∷ xs) name is = by (same_name x q) is (λ h. among_then q xs name h)
  where
    by : (b : Bool) → (b || is_among q (xs ++ name ∷ [])) ≡ true → (is_among q (xs ++ name ∷ []) ≡ true → (is_among q xs ≡ true) ⊎ (same_name name q ≡ true))
        → ((b || is_among q xs) ≡ true) ⊎ (same_name name q ≡ true)
    by true h rest = inl refl
    by false h rest = rest h

none_there : (f : FloorRecord) (name : List ℕ) → lookup (same_name name) (games_of f) ≡ None → lookup (same_name name) f.boards ≡ None
none_there f name none = by (lookup (same_name name) f.boards) (sym (lookup-map (same_name name) (λ (b : HallBoard). b.game) f.boards) ∙ none)
  where
    by : (o : Option HallBoard) → option_map (λ (b : HallBoard). b.game) o ≡ None → o ≡ None
    by None is = refl
    by (Some b) is = absurd (none-some b.game (sym is))

-- no board is opened
not_more : (f g : FloorRecord) (who : Owner) (opened : List (List ℕ)) (reply : Reply) → BoardsStay f g → AreOpened f who opened → AreOpened g who (cond (is_accepted reply) (opened ++ []) opened)
not_more f g who opened reply stay are = by (is_accepted reply)
  where
    by : (b : Bool) → AreOpened g who (cond b (opened ++ []) opened)
    by true = subst (AreOpened g who) (sym (append-nil opened)) (opened_still f g who opened stay are)
    by false = opened_still f g who opened stay are

-- a board that it opens is its own
opened_own : (f g : FloorRecord) (who : Owner) (name : List ℕ) (start : ℕ) (opened : List (List ℕ)) (a : Result Unit Refusal) (reply : Reply) → a ≡ answer_to_open f name start
    → OpensAs f who name start a reply g → BoardsStay f g → AreOpened f who opened → AreOpened g who (opened_after opened (Open name start) reply)
opened_own f g who name start opened (Err refusal) reply is (reply-is, g-is) stay are =
    subst (AreOpened g who) (sym (ap (opened_after opened (Open name start)) reply-is)) (opened_still f g who opened stay are)
opened_own f g who name start opened (Ok u) reply is (inr (reply-is, g-is)) stay are =
    subst (AreOpened g who) (sym (ap (opened_after opened (Open name start)) reply-is)) (opened_still f g who opened stay are)
opened_own f g who name start opened (Ok u) reply is (inl (table, reply-is, g-is)) stay are =
    subst (AreOpened g who) (sym (ap (opened_after opened (Open name start)) reply-is)) all
  where
    free : lookup (same_name name) (games_of f) ≡ None
    free = nothing (lookup (same_name name) (games_of f)) (opened_where (is_some (lookup (same_name name) (games_of f))) start (length (games_of f)) f.limits.boards u is).0

    new : HallBoard
    new = new_board f table who start

    unused : lookup (same_name name) f.boards ≡ None
    unused = none_there f name free

    here : lookup (same_name name) g.boards ≡ Some new
    here =
        ap (λ (x : FloorRecord). lookup (same_name name) x.boards) g-is ∙ lookup-push (same_name name) f.boards name new
        ∙ (ap (λ (o : Option HallBoard). first_some o (cond (same_name name name) (Some new) None)) unused ∙ ap (λ (b : Bool). cond b (Some new) None) (is_same_name name name refl))

    all : AreOpened g who (opened ++ name ∷ [])
    all q among = one (among_then q opened name among)
      where
        one : (is_among q opened ≡ true) ⊎ (same_name name q ≡ true) → (b : HallBoard) × (lookup (same_name q) g.boards ≡ Some b) × (b.owner ≡ who)
        one (inl before) = opened_still f g who opened stay are q before
        one (inr now) = subst (λ (n : List ℕ). (b : HallBoard) × (lookup (same_name n) g.boards ≡ Some b) × (b.owner ≡ who)) (same_name_is name q now) (new, here, refl)

pub made_own : (f g : FloorRecord) (who : Owner) (step : Step) (reply : Reply) (handed : Option Handed) (opened : List (List ℕ)) → Makes f who step reply handed g → AreOpened f who opened
    → AreOpened g who (opened_after opened step reply)
made_own f g who (Open name start) reply handed opened m are =
    opened_own f g who name start opened (answer_to_open f name start) reply refl m.0 (made_stay f who (Open name start) reply handed g m) are
made_own f g who (Submit name x) reply handed opened m are = not_more f g who opened reply (made_stay f who (Submit name x) reply handed g m) are
made_own f g who (End name x) reply handed opened m are = not_more f g who opened reply (made_stay f who (End name x) reply handed g m) are
made_own f g who (Follow spectator name from) reply handed opened m are = not_more f g who opened reply (made_stay f who (Follow spectator name from) reply handed g m) are
made_own f g who (Take spectator) reply handed opened m are = not_more f g who opened reply (made_stay f who (Take spectator) reply handed g m) are
made_own f g who (Leave spectator) reply handed opened m are = not_more f g who opened reply (made_stay f who (Leave spectator) reply handed g m) are

-- ---- Who may make a step has the right to it.

owned : (f : FloorRecord) (who : Owner) (name : List ℕ) (o : Option HallBoard) → lookup (same_name name) f.boards ≡ o → is_owned who.key o ≡ true → OwnsBoard f who name
owned f who name None at is = absurd (true≢false (sym is))
owned f who name (Some b) at is = (b, at, inr is)

own_or_shared : (f : FloorRecord) (who : Owner) (opened : List (List ℕ)) (name : List ℕ) → AreOpened f who opened → (is_among name opened || tells_of f who (Owns name)) ≡ true → OwnsBoard f who name
own_or_shared f who opened name are may = by (is_among name opened) refl may
  where
    by : (b : Bool) → is_among name opened ≡ b → (b || tells_of f who (Owns name)) ≡ true → OwnsBoard f who name
    by true among h = let a = are name among in (a.0, a.1, inl a.2)
    by false among h = owned f who name (lookup (same_name name) f.boards) refl h

pub may_rightly : (f : FloorRecord) (who : Owner) (opened : List (List ℕ)) (step : Step) → AreOpened f who opened → may_make f who opened step ≡ true → IsRightfulStep f who step
may_rightly f who opened (Open name start) are may = tt
may_rightly f who opened (Submit name m) are may = own_or_shared f who opened name are may
may_rightly f who opened (End name ending) are may = own_or_shared f who opened name are may
may_rightly f who opened (Follow spectator name from) are may = tt
may_rightly f who opened (Take spectator) are may = tt
may_rightly f who opened (Leave spectator) are may = tt
