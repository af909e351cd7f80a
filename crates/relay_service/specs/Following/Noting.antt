-- Which piece is noted.
use Rattle.relay_frames.specs.Events.{number_of}
use Rattle.relay_service.specs.declared.following.new_piece.NewPiece.{NewPiece}
use Rattle.relay_service.specs.declared.following.new_piece.NewPiece.TheVariants.{Move, Pong, Ping, End, Close}
use Rattle.relay_service.specs.Following.Pieces.{Piece, a_close, a_move, a_ping, a_pong, an_end}

abbrev pub piece_of : NewPiece → Piece
piece_of (Move place m) = a_move place m
piece_of (Pong bytes) = a_pong bytes.items
piece_of Ping = a_ping
piece_of (End taken code) = an_end taken.value code.number
piece_of (Close code) = a_close (number_of code)
