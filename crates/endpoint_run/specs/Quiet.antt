-- Runs after which all bytes were delivered and read.
use Rattle.std.specs.Prelude.{List}
use Rattle.mux_run.specs.Run.{World, Terms}
use Rattle.mux_credit.specs.Runs.{IsQuiet, IsAllDelivered}
use Rattle.endpoint_run.specs.Run.{EndWorld, EndStep, mux_side, end_run}

-- the multiplexing ends of both sides, with the bytes that were delivered to them
abbrev pub mux_world : Terms → EndWorld → World
mux_world terms w = record { a = mux_side terms.version w.a; b = mux_side terms.version w.b }

-- where they are quiet after these steps, all that was written on a channel that is live at both was handed over
abbrev pub DeliversAll : Terms → List EndStep → Type 0
DeliversAll terms steps = IsQuiet terms (mux_world terms (end_run terms steps)) → IsAllDelivered terms (mux_world terms (end_run terms steps))
