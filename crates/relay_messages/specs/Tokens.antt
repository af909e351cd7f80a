-- What serde_json reads in a text, in terms of the text's tokens.
use Rattle.std.specs.Prelude.{List, Option, option_and_then}
use Rattle.json.specs.Json.{if_last, value}
use Rattle.json.specs.Token.{Token}
use Rattle.serde_json.specs.Data.{Data}
use Rattle.serde_json.specs.Read.{max_depth, of_json}

abbrev pub read_tokens : List Token → Option Data
read_tokens ts = option_and_then of_json (option_and_then (λ p. if_last p.0 p.1) (value max_depth ts))
