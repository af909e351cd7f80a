-- What is not an object asks for nothing.
use Rattle.std.specs.Prelude.{◌≡◌, None, Err, refl}
use Rattle.serde_json.specs.Data.{Data, null, boolean, number, string, array, object}
use Rattle.serde_json.specs.Find.{as_object}
use Rattle.relay_messages.specs.Commands.{command_in, watch_command_in}
use Rattle.relay_messages.specs.declared.fault.MessageFault.TheVariants.{NotObject}

pub command_in-other : (d : Data) → as_object d ≡ None → command_in d ≡ Err NotObject
unfolding command_in
command_in-other null h = refl
command_in-other (boolean b) h = refl
command_in-other (number n) h = refl
command_in-other (string s) h = refl
command_in-other (array ds) h = refl
command_in-other (object ms) h = absurd (cc)

pub watch_command_in-other : (d : Data) → as_object d ≡ None → watch_command_in d ≡ Err NotObject
unfolding command_in watch_command_in
watch_command_in-other null h = refl
watch_command_in-other (boolean b) h = refl
watch_command_in-other (number n) h = refl
watch_command_in-other (string s) h = refl
watch_command_in-other (array ds) h = refl
watch_command_in-other (object ms) h = absurd (cc)
