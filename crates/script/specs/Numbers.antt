-- The numbers of the reasons, as status lines print them.
use Rattle.std.specs.Prelude.{ℕ}
use Rattle.script.specs.declared.reason.ScriptReason.{ScriptReason}
use Rattle.script.specs.declared.reason.ScriptReason.TheVariants as reason

abbrev pub script_reason_number : ScriptReason → ℕ
script_reason_number reason.BadHead = 90
script_reason_number reason.UnknownStep = 91
script_reason_number reason.BadWord = 92
script_reason_number reason.BadJson = 93
script_reason_number reason.NotUtf8 = 95
script_reason_number reason.TooManySteps = 96
script_reason_number reason.NoLineEnd = 97
