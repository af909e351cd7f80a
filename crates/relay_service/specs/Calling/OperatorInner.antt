-- What a connection shows of its fields.
use Rattle.relay_service.specs.Calling.Answering.{OperatorRecord}
use Rattle.relay_service.specs.declared.calling.operator_connection.OperatorConnection.TheInside.{Inside}

abbrev pub operator_of : Inside → OperatorRecord
operator_of a = record {
  head = a.head.items;
  takes_keys = a.takes_keys;
  reading = a.peer;
  boards = a.conn;
  who = a.owner;
  due = a.output;
  left = a.left;
  stage = a.stage;
}
