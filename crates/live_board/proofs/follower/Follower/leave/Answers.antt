use Rattle.std.proofs.Common.{rules, arith, ◌≡◌, ◌+◌, ◌≤◌, ℕ, sym, subst, ap, ◌∙◌}
use lib.ListN.{get_elem?}
use Rattle.live_board.specs.declared.setup.BoardSetup.{BoardSetup}
use Rattle.live_board.specs.declared.view.View.{View}
use Rattle.live_board.specs.declared.view.Part.{Part}
use Rattle.live_board.specs.Views.{learns}
use Rattle.relay_core.specs.declared.reply.Account.{Account}
use Rattle.live_board.specs.Accounts.{account_of}
use Rattle.live_board.specs.Seats.{FollowerSeat, part_of}
use Rattle.live_board.proofs.Followers.{account_within}
use Rattle.live_board.proofs.Steps.{leaving}
use Rattle.live_board.proofs.follower.Follower.leave.Goals as goal

pub swap-cursor-requires : goal.swap-cursor-requires
swap-cursor-requires c =
    let i = c.follower.invariant in
    let inside = i.sound.inside in (
      search rules,
      omega (arith, c.cursor_at.ensures, inside, i.slot_is, ap (λ (z : BoardSetup). z.limits.followers) i.setup_is, i.words, ap (λ t. t.shared.table_id.words) c.deref.ensures),
      leaving _ _ _ _ 0 (part_of c.follower.inside.seat.me.0) _ (c.cursor_at.ensures ∙ ap (λ (y : ℕ). y + 2) i.slot_is) (ap (λ (u : View). get_elem? u.parts 0) i.one),
    )

pub account-requires-clause-closing : goal.account-requires-clause-closing
account-requires-clause-closing c = λ x e.
    let i = c.follower.invariant in
    let after = c.swap-cursor.ensures.2.2 0 (part_of c.follower.inside.seat.me.0) (ap (λ (u : View). get_elem? u.parts 0) i.one) (ap (λ (y : ℕ). y + 2) (sym i.slot_is) ∙ sym c.cursor_at.ensures) in
    let closed = (after.closing x (sym c.closing_in.ensures ∙ e)).2 in
    let most = i.sound.limits.most_plies in
    omega (arith, closed, most)

pub returns-clause-headline : goal.returns-clause-headline
returns-clause-headline c =
    let i = c.follower.invariant in
    let after = c.swap-cursor.ensures.2.2 0 (part_of c.follower.inside.seat.me.0) (ap (λ (u : View). get_elem? u.parts 0) i.one) (ap (λ (y : ℕ). y + 2) (sym i.slot_is) ∙ sym c.cursor_at.ensures) in
    (learns c.swap-cursor.result (part_of c.follower.inside.seat.me.0), search rules, after)

pub returns-clause-gone : goal.returns-clause-gone
returns-clause-gone c =
    let i = c.follower.invariant in
    let p = part_of c.follower.inside.seat.me.0 in
    let s = c.look.ensures.part in
    let now = ap (λ (h : FollowerSeat). h.part) c.follower.view_is ∙ s.1 in
    let shown = c.swap-cursor.ensures.2.3 0 p (ap (λ (u : View). get_elem? u.parts 0) i.one) (ap (λ (y : ℕ). y + 2) (sym i.slot_is) ∙ sym c.cursor_at.ensures) in
    (s.0, c.swap-cursor.result, search rules, search rules, (s.2, s.4, λ d e. shown d (ap (λ (q : Part). q.closing) now ∙ e)))

pub returns-clause-within : goal.returns-clause-within
returns-clause-within c =
    let i = c.follower.invariant in
    let p = part_of c.follower.inside.seat.me.0 in
    let n = c.swap-cursor.result in
    let after = c.swap-cursor.ensures.2.2 0 p (ap (λ (u : View). get_elem? u.parts 0) i.one) (ap (λ (y : ℕ). y + 2) (sym i.slot_is) ∙ sym c.cursor_at.ensures) in
    let is : c.account.result ≡ account_of (learns n p) = search rules in
    subst (λ (a : Account). a.joined + a.taken ≤ a.limit) (sym is) (account_within (learns n p) after)
