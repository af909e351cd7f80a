use Rattle.std.proofs.Common.{refl}
use Rattle.std.specs.Prelude.{not}
use Rattle.c960_rules.specs.declared.tables.onward.TheConstants.{ONWARD}
use Rattle.c960_rules.specs.Inner.Rays.{above}
use Rattle.c960_rules.specs.Inner.Wheres.{where_set}
use Rattle.c960_rules.proofs.LeapTables.{row_of}
use Rattle.c960_rules.proofs.RayTables.{onward_table}
use Rattle.c960_rules.proofs.tables.onward.onward.Goals as goal

pub returns : goal.returns
returns c = row_of (λ k. where_set (λ t. not (above k t))) ONWARD onward_table c.requires refl
