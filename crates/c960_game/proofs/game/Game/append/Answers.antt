use Rattle.std.proofs.Common.{◌≡◌, length, arith, sym, ◌∙◌, ap, refl}
use Rattle.c960_game.specs.Record.{with_move}
use Rattle.c960_game.specs.GameRecord.{GameRecord}
use Rattle.c960_game.proofs.lemmas.KeptFacts.{kept_more, recent_room}
use Rattle.c960_game.proofs.game.Game.append.Goals as goal

pub add_recent-requires : goal.add_recent-requires
add_recent-requires c =
    let room = recent_room c.self.inside c.self.invariant (rw (← c.self.view_is) at c.requires.going) in
    omega (arith, room, c.self.invariant.recent_room, c.self.inside.recent.ok.0)

pub returns-clause-game : goal.returns-clause-game
returns-clause-game c =
    rw (← c.self.view_is) (rw (c.push_reserved.ensures.items, rw (← c.self.view_is) at c.requires.outcome) refl)

pub invariant_of-self : goal.invariant_of-self
invariant_of-self c =
    let made : c.len.result ≡ length c.self.inside.moves.items = omega (arith, c.len.ensures, c.self.inside.moves.ok.0) in
    kept_more c.self.inside _ c.args.m c.args.next c.self.invariant
    (rw (← c.self.view_is) at c.requires.going)
    (rw (← c.self.view_is) at c.requires.room)
    (rw (← c.self.view_is) at c.requires.legal)
    (rw (← c.self.view_is) at c.requires.next)
    (returns-clause-game c ∙ ap (λ (g : GameRecord). with_move g c.args.m) (sym c.self.view_is))
    (record {
      position = refl;
      recent = c.add_recent.ensures.items;
      milestones = rw made at c.add_milestone.ensures.items;
      moves_room = c.push_reserved.ensures.capacity;
      recent_room = c.add_recent.ensures.capacity;
      milestones_room = c.add_milestone.ensures.capacity;
    })

pub returns-clause-valid : goal.returns-clause-valid
returns-clause-valid c = (invariant_of-self c).game
