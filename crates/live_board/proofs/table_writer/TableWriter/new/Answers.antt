use Rattle.std.proofs.Common.{rules}
use Rattle.live_board.proofs.Allowed.{table_made}
use Rattle.live_board.proofs.table_writer.TableWriter.new.Goals as goal

pub of_words-requires : goal.of_words-requires
of_words-requires c = table_made _ c.requires.start c.requires.limits _ (search rules)
