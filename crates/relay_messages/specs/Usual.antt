-- The value that an object with the usual keys represents.
use Rattle.std.specs.Prelude.{List, [], ◌∷◌, codes}
use Rattle.serde_json.specs.Data.{Data, object}
use Rattle.relay_messages.specs.Compact.{member_of}
use Rattle.relay_messages.specs.Members.{members_in}
use Rattle.relay_messages.specs.declared.member.Field.TheVariants.{Text, Number}
use Rattle.relay_messages.specs.declared.member.Member.{Member}
use Rattle.relay_messages.specs.declared.object.usual.Usual.{Usual}
use Rattle.relay_messages.specs.declared.object.usual.Usual.TheVariants.{Spectator, Move, Follow, FollowFrom}

-- the members, in the order in which they are written
abbrev pub usual_members : Usual → List Member
usual_members (Spectator cmd who) = member_of (codes "cmd") (Text cmd) ∷ member_of (codes "spectator") (Number who) ∷ []
usual_members (Move cmd board m) = member_of (codes "cmd") (Text cmd) ∷ member_of (codes "board") (Text board) ∷ member_of (codes "move") (Text m) ∷ []
usual_members (Follow cmd board who) = member_of (codes "cmd") (Text cmd) ∷ member_of (codes "board") (Text board) ∷ member_of (codes "spectator") (Number who) ∷ []
usual_members (FollowFrom cmd board who from) =
    member_of (codes "cmd") (Text cmd) ∷ member_of (codes "board") (Text board) ∷ member_of (codes "spectator") (Number who)
    ∷ member_of (codes "from") (Number from) ∷ []

abbrev pub usual_data : Usual → Data
usual_data u = object (members_in (usual_members u))
