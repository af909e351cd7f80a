use Rattle.std.proofs.Common.{◌-◌, length, refl, ◌∙◌, arith}
use Rattle.relay_core.proofs.TagRows.{last_block, marked}
use Rattle.relay_core.proofs.tags.TagSearch.mark.Goals as goal

pub returns-then-tags-self-ge-LANES-clause-search : goal.returns-then-tags-self-ge-LANES-clause-search
returns-then-tags-self-ge-LANES-clause-search c =
    marked c.args.tags.now c.args.tag 64 c.args.self.now _ c.requires.search c.requires.empty
    (omega (arith, c.requires.more, c.if-tags-self-ge-LANES.true)) refl refl refl c.marks-self.ensures

pub returns-else-tags-self-ge-LANES-clause-search : goal.returns-else-tags-self-ge-LANES-clause-search
returns-else-tags-self-ge-LANES-clause-search c =
    marked c.args.tags.now c.args.tag (length c.args.tags.now - c.args.self.now.ahead) c.args.self.now _ c.requires.search c.requires.empty
    (omega (arith, c.requires.more)) refl refl (omega (arith, c.requires.more))
    (c.last_marks-self.ensures ∙ last_block c.args.tags.now c.args.tag c.args.self.now.ahead)
