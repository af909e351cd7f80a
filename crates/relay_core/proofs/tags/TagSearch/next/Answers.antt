use Rattle.std.proofs.Common.{◌+◌, refl, subst, arith, rules, w64}
use Rattle.std.specs.Int.{trailing_zeros}
use Rattle.c960_board.proofs.lemmas.LowestFacts.{lowest_of}
use Rattle.relay_core.specs.Inner.TagRow.{PassesOver}
use Rattle.relay_core.proofs.TagRows.{exhausted, first_behind, first_has_it, first_passed, first_within, goes_on}
use Rattle.relay_core.proofs.tags.TagSearch.next.Goals as goal

pub returns-then-self-tags-clause-passed : goal.returns-then-self-tags-clause-passed
returns-then-self-tags-clause-passed c =
    subst (λ from. PassesOver c.args.tags.now c.args.tag from c.loop-self.self.ahead) c.loop-self.invariant.from
    (exhausted c.args.tags.now c.args.tag c.loop-self.self c.loop-self.invariant.search c.loop-self-test.true)

pub returns-clause-behind : goal.returns-clause-behind
returns-clause-behind c =
    omega (
      arith,
      c.loop-self.invariant.from,
      first_behind c.args.tags.now c.args.tag c.loop-self.self c.loop-self.invariant.search (trailing_zeros w64 c.loop-self.self.left)
          (lowest_of c.loop-self.self.left (omega (arith, c.loop-self-test.false)) (search rules)),
    )

pub returns-clause-bound : goal.returns-clause-bound
returns-clause-bound c =
    omega (
      arith,
      first_within c.args.tags.now c.args.tag c.loop-self.self c.loop-self.invariant.search (trailing_zeros w64 c.loop-self.self.left)
          (lowest_of c.loop-self.self.left (omega (arith, c.loop-self-test.false)) (search rules)),
    )

pub returns-clause-passed : goal.returns-clause-passed
returns-clause-passed c =
    subst (λ from. PassesOver c.args.tags.now c.args.tag from (c.loop-self.self.block + trailing_zeros w64 c.loop-self.self.left))
    c.loop-self.invariant.from
    (first_passed c.args.tags.now c.args.tag c.loop-self.self c.loop-self.invariant.search (trailing_zeros w64 c.loop-self.self.left)
    (lowest_of c.loop-self.self.left (omega (arith, c.loop-self-test.false)) (search rules)))

pub returns-clause-found : goal.returns-clause-found
returns-clause-found c = λ _.
    first_has_it c.args.tags.now c.args.tag c.loop-self.self c.loop-self.invariant.search (trailing_zeros w64 c.loop-self.self.left)
    (lowest_of c.loop-self.self.left (omega (arith, c.loop-self-test.false)) (search rules))

pub returns-clause-search : goal.returns-clause-search
returns-clause-search c =
    goes_on c.args.tags.now c.args.tag c.loop-self.self c.loop-self.invariant.search (trailing_zeros w64 c.loop-self.self.left)
    (lowest_of c.loop-self.self.left (omega (arith, c.loop-self-test.false)) (search rules)) _
    c.of.ensures refl refl refl
