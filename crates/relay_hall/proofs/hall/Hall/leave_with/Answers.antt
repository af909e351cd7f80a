use Rattle.std.proofs.Common.{◌≡◌, ◌&&◌, ℕ, Bool, not, is_some, is_none, List, Option, None, Some, refl, sym, ap, ◌∙◌}
use Rattle.relay_hall.specs.declared.holders.Holder.{Holder}
use Rattle.relay_hall.specs.declared.owner.Owner.{Owner}
use Rattle.relay_hall.specs.Keys.{is_owner}
use Rattle.relay_hall.specs.Holders.{OthersStay, presence_of, without_one}
use Rattle.relay_hall.specs.Inner.{hall_of}
use Rattle.relay_hall.specs.Record.{FloorRecord, HallRecord}
use Rattle.relay_hall.specs.Runs.{Goes, Silent}
use Rattle.relay_hall.specs.Times.{WentWith, swept_floor, waits_until}
use Rattle.relay_hall.proofs.lemmas.Reached.{goes_on}
use Rattle.relay_hall.proofs.hall.Hall.leave_with.Goals as goal

not_some : {A : Type 0} (o : Option A) → not (is_some o) ≡ is_none o
not_some None = refl
not_some (Some x) = refl

went : (k : HallRecord) (key : List ℕ) (until : Option ℕ) (keys : List Holder) (has : Bool) (floor : FloorRecord)
    → presence_of key keys ≡ without_one (presence_of key k.keys) until → until ≡ waits_until k key → OthersStay key k.keys keys → has ≡ is_some (presence_of key keys)
    → floor ≡ swept_floor k.floor (λ owner. not has && is_owner (Some key) owner.key) → WentWith k key (record k { floor = floor; keys = keys })
went k key until keys has floor left waits others has-is swept =
    let is = ap not has-is ∙ not_some (presence_of key keys) in
    let gone : Bool → Owner → Bool = λ t owner. t && is_owner (Some key) owner.key in (
      left ∙ ap (without_one (presence_of key k.keys)) waits,
      others,
      (λ i. record k { floor = (swept ∙ ap (λ t. swept_floor k.floor (gone t)) is) i; keys = keys }),
    )

pub invariant_of-self : goal.invariant_of-self
invariant_of-self c =
    let a = c.self.inside in
    let key = c.args.key.now in
    let waits = c.waits_until-until.ensures ∙ sym (ap (λ (k : HallRecord). waits_until k key) c.self.view_is) in
    record {
      empty = c.sweep.ensures.handed ∙ c.self.invariant.empty;
      reached = goes_on (hall_of a) c.self.invariant.reached (Goes (record { key = Some key; opener = 0 })) Silent _
          (went (hall_of a) key c.waits_until-until.result c.leave.new.self.rows.items c.has.result c.sweep.new.self.floor c.leave.ensures.left waits c.leave.ensures.others c.has.ensures c.sweep.ensures.floor);
    }

pub returns : goal.returns
returns c =
    let a = c.self.inside in
    let key = c.args.key.now in
    let waits = c.waits_until-until.ensures ∙ sym (ap (λ (k : HallRecord). waits_until k key) c.self.view_is) in
    rw (← c.self.view_is)
    (went (hall_of a) key c.waits_until-until.result c.leave.new.self.rows.items c.has.result c.sweep.new.self.floor c.leave.ensures.left waits c.leave.ensures.others c.has.ensures c.sweep.ensures.floor)
