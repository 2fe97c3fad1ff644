-- What a command has read and written when it answers a status.
use Rattle.std.specs.Prelude.{◌≡◌, ◌≤◌, ◌↔◌, ◌⊎◌, ℕ, List, true, false, length, Option, Some, None}
use Rattle.std.specs.Io.KnownBytes.{append_known}
use Rattle.wire_base.specs.Causes.{Rose}
use Rattle.wire_base.specs.declared.frame.Version.{Version}
use Rattle.wire_base.specs.declared.reason.Reason.{Reason}
use Rattle.mux_run.specs.Run.{Terms}
use Rattle.endpoint_run.specs.declared.steps.Step.{Step}
use Rattle.duo_world.specs.Stepping.{RunHolds}
use Rattle.script.specs.Found.{script_in, reads, breaks}
use Rattle.script.specs.Numbers.{script_reason_number}
use Rattle.script.specs.declared.reason.ScriptReason.{ScriptReason}
use Rattle.transcript.specs.Report.{report_text}
use Rattle.stream_view.specs.View.{view_text, view_refusal}
use Rattle.muxrpc_app.specs.Streams.{SourceState, SinkState, WasRead, HoldsNothing, ReadWithin, ReadPast, WroteFront, most_input}
use Rattle.muxrpc_app.specs.StatusText.{status_code, status_text}
use Rattle.muxrpc_app.specs.Words.{command_in}
use Rattle.muxrpc_app.specs.declared.words.Command.{Command}
use Rattle.muxrpc_app.specs.declared.words.Command.TheVariants.{Replay, View}
use Rattle.muxrpc_app.specs.declared.input.InputFault.{InputFault}
use Rattle.muxrpc_app.specs.declared.input.InputFault.TheVariants as fault
use Rattle.muxrpc_app.specs.declared.status.Status.{Status}
use Rattle.muxrpc_app.specs.declared.status.Status.TheVariants as status

-- the input was read to its end, within the limit, and is a script
pub record ReadScript (old new : SourceState) : Type 0 where
  pub bytes : List ℕ
  pub terms : Terms
  pub steps : List Step
  pub was_read : WasRead old.held new.held bytes
  pub within : length bytes ≤ most_input
  pub ended : new.ended ≡ true
  pub at_end : HoldsNothing new.held
  pub is_script : script_in bytes ≡ reads terms steps

-- the report of the run of a script that was read
abbrev pub text_of : {old new : SourceState} → ReadScript old new → List ℕ
text_of s = report_text s.terms s.steps

-- the output has grown by exactly the report of the run of the script that was read. At every moment that run is safe, keeps
-- its credit and has one outcome for each request, its connections exchange messages and the pages of sequences in order and
-- answer a request once at most, and handles rest after their end; at its end nothing whole is left to either side
pub record ReplayDone (old new : SourceState) (before after : SinkState) : Type 0 where
  pub script : ReadScript old new
  pub written : after.given ≡ append_known before.given (text_of script)
  pub flushed : after.flushed ≡ true
  pub holds : RunHolds script.terms script.steps

-- writing failed: a front of the report is written
pub record WritingFailed (old new : SourceState) (before after : SinkState) : Type 0 where
  pub script : ReadScript old new
  pub cause : Rose before.faults after.faults
  pub front : WroteFront before.given after.given (text_of script)

-- the input was read to its end, and is broken as a script first in this line; nothing is written
pub record ScriptBroken (old new : SourceState) (before after : SinkState) (line number : ℕ) : Type 0 where
  pub bytes : List ℕ
  pub reason : ScriptReason
  pub was_read : WasRead old.held new.held bytes
  pub within : length bytes ≤ most_input
  pub ended : new.ended ≡ true
  pub at_end : HoldsNothing new.held
  pub breaks_there : script_in bytes ≡ breaks line reason
  pub number_is : number ≡ script_reason_number reason
  pub nothing : after.given ≡ before.given

-- what a replay has done, by the status that it answers
abbrev pub Replayed : SourceState → SourceState → SinkState → SinkState → Status → Type 0
Replayed old new before after status.Done = ReplayDone old new before after
Replayed old new before after status.Usage = ⊥
Replayed old new before after (status.ScriptRefused line number) = ScriptBroken old new before after line number
Replayed old new before after (status.StreamRefused place reason) = ⊥
Replayed old new before after status.ReadFault = Rose old.faults new.faults × ReadWithin old.held new.held × (new.ended ≡ false) × (after.given ≡ before.given)
Replayed old new before after status.WriteFault = WritingFailed old new before after
Replayed old new before after status.LinkFault = ⊥
Replayed old new before after status.OutOfMemory = after.given ≡ before.given
Replayed old new before after status.TooLong = ReadPast old.held new.held × (after.given ≡ before.given)
Replayed old new before after status.LinkEnded = ⊥

-- the input was read to its end, within the limit, and is a capture
pub record ReadCapture (old new : SourceState) : Type 0 where
  pub bytes : List ℕ
  pub was_read : WasRead old.held new.held bytes
  pub within : length bytes ≤ most_input
  pub ended : new.ended ≡ true
  pub at_end : HoldsNothing new.held

-- the output has grown by exactly the view of the capture that was read, which is refused there, or nowhere
pub record ViewDone (v : Version) (old new : SourceState) (before after : SinkState) (refused : Option (ℕ × Reason)) : Type 0 where
  pub capture : ReadCapture old new
  pub written : after.given ≡ append_known before.given (view_text v capture.bytes)
  pub flushed : after.flushed ≡ true
  pub refusal : view_refusal v capture.bytes ≡ refused

-- writing failed: a front of the view is written
pub record ViewFailed (v : Version) (old new : SourceState) (before after : SinkState) : Type 0 where
  pub capture : ReadCapture old new
  pub cause : Rose before.faults after.faults
  pub front : WroteFront before.given after.given (view_text v capture.bytes)

-- what a view of a version has done, by the status that it answers
abbrev pub Viewed : Version → SourceState → SourceState → SinkState → SinkState → Status → Type 0
Viewed v old new before after status.Done = ViewDone v old new before after None
Viewed v old new before after status.Usage = ⊥
Viewed v old new before after (status.ScriptRefused line number) = ⊥
Viewed v old new before after (status.StreamRefused place reason) = ViewDone v old new before after (Some (place.0, reason))
Viewed v old new before after status.ReadFault = Rose old.faults new.faults × ReadWithin old.held new.held × (new.ended ≡ false) × (after.given ≡ before.given)
Viewed v old new before after status.WriteFault = ViewFailed v old new before after
Viewed v old new before after status.LinkFault = ⊥
Viewed v old new before after status.OutOfMemory = after.given ≡ before.given
Viewed v old new before after status.TooLong = ReadPast old.held new.held × (after.given ≡ before.given)
Viewed v old new before after status.LinkEnded = ⊥

-- the status of a view of a capture that is refused there, or nowhere
abbrev pub view_status : Option (ℕ × Reason) → Status
view_status None = status.Done
view_status (Some x) = status.StreamRefused (record { 0 = x.0 }) x.1

-- what a command has done
abbrev pub Does : Command → SourceState → SourceState → SinkState → SinkState → Status → Type 0
Does Replay old new before after s = Replayed old new before after s
Does (View v) old new before after s = Viewed v old new before after s

-- the status of an input that wasn't read to its end
abbrev pub input_status : InputFault → Status
input_status fault.Failed = status.ReadFault
input_status fault.TooLong = status.TooLong
input_status fault.OutOfMemory = status.OutOfMemory

-- what the words made of the input and the output, where the run ended with this status
pub record Ran (words : List (List ℕ)) (old new : SourceState) (before after : SinkState) (s : Status) : Type 0 where
  pub usage : (s ≡ status.Usage) ↔ (command_in words ≡ None)
  pub untouched : s ≡ status.Usage → (new ≡ old) × (after ≡ before)
  pub outcome : (c : Command) → command_in words ≡ Some c → Does c old new before after s

-- the line of a status was written; or a write failed, and then a front of it was
abbrev pub Tells : (before after : SinkState) → Status → Type 0
Tells before after s = (after.given ≡ append_known before.given (status_text s)) ⊎ (Rose before.faults after.faults × WroteFront before.given after.given (status_text s))

-- the words ran and ended with a status, whose line was written and whose code this is
pub record Exits (words : List (List ℕ)) (old new : SourceState) (before after told_before told_after : SinkState) (code : ℕ) : Type 0 where
  pub ended : Status
  pub ran : Ran words old new before after ended
  pub told : Tells told_before told_after ended
  pub code_is : code ≡ status_code ended
