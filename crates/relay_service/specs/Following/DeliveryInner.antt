-- What shows what is delivered to a connection.
use Rattle.relay_service.specs.declared.following.delivery.Delivery.TheInside.{Inside}
use Rattle.relay_service.specs.Following.Record.{DeliveryRecord}

abbrev pub delivery_of : Inside → DeliveryRecord
delivery_of a = record {
  board = a.board;
  follower = a.standing.follower;
  stage = a.standing.stage;
  opening = a.opening.items;
  sent = a.sent.items;
  due = a.output;
  pieces = a.pieces.items;
}
