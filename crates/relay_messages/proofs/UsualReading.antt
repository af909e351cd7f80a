-- A usual object is a compact one: its members are those that its places say.
use Rattle.std.proofs.Common.{◌≡◌, List, [], ◌∷◌, Some, codes, ℕ, refl}
use Rattle.json.specs.Token.{Token}
use Rattle.json.specs.Print.{escape_byte, token_text}
use Rattle.serde_json.specs.Data.{object}
use Rattle.serde_json.specs.Read.{read}
use Rattle.relay_messages.proofs.CompactReading.{closed, first_written, next_written, text_read}
use Rattle.relay_messages.specs.Compact.{IsClosed, IsMember}
use Rattle.relay_messages.specs.Members.{members_in}
use Rattle.relay_messages.specs.declared.member.Member.{Member}

-- ---- How the keys are written.

pub cmd_written : codes "\"cmd\":" ≡ token_text (Token.key (codes "cmd"))
unfolding escape_byte
cmd_written = refl

pub spectator_written : codes "\"spectator\":" ≡ token_text (Token.key (codes "spectator"))
unfolding escape_byte
spectator_written = refl

pub board_written : codes "\"board\":" ≡ token_text (Token.key (codes "board"))
unfolding escape_byte
board_written = refl

pub move_written : codes "\"move\":" ≡ token_text (Token.key (codes "move"))
unfolding escape_byte
move_written = refl

pub from_written : codes "\"from\":" ≡ token_text (Token.key (codes "from"))
unfolding escape_byte
from_written = refl

-- ---- What is read.

-- two members between braces
pub two_read : (m n : Member) (text first then next end : List ℕ) → text ≡ 123 ∷ first → IsMember m first then → then ≡ 44 ∷ next
    → IsMember n next end → IsClosed end → read text ≡ Some (object (members_in (m ∷ n ∷ [])))
two_read m n text first then next end opened one divided two over =
    text_read text (m ∷ n ∷ []) (one.within, (two.within, tt))
    (first_written m text first then _ opened one (next_written n then next end _ divided two (closed end over)))

-- three members between braces
pub three_read : (m n o : Member) (text first then next later last end : List ℕ) → text ≡ 123 ∷ first → IsMember m first then → then ≡ 44 ∷ next
    → IsMember n next later → later ≡ 44 ∷ last → IsMember o last end → IsClosed end → read text ≡ Some (object (members_in (m ∷ n ∷ o ∷ [])))
three_read m n o text first then next later last end opened one divided two divided_again three over =
    text_read text (m ∷ n ∷ o ∷ []) (one.within, (two.within, (three.within, tt)))
    (first_written m text first then _ opened one (next_written n then next later _ divided two
    (next_written o later last end _ divided_again three (closed end over))))

-- four members between braces
pub four_read : (m n o p : Member) (text first then next later last after fourth end : List ℕ) → text ≡ 123 ∷ first → IsMember m first then → then ≡ 44 ∷ next
    → IsMember n next later → later ≡ 44 ∷ last → IsMember o last after → after ≡ 44 ∷ fourth → IsMember p fourth end → IsClosed end
    → read text ≡ Some (object (members_in (m ∷ n ∷ o ∷ p ∷ [])))
four_read m n o p text first then next later last after fourth end opened one divided two divided_again three divided_last four over =
    text_read text (m ∷ n ∷ o ∷ p ∷ []) (one.within, (two.within, (three.within, (four.within, tt))))
    (first_written m text first then _ opened one (next_written n then next later _ divided two
    (next_written o later last after _ divided_again three (next_written p after fourth end _ divided_last four (closed end over)))))
