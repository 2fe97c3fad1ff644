-- A capture that was read, and its view.
use Rattle.std.proofs.Common.{◌≡◌, ◌≤◌, ◌⊎◌, inl, inr, ℕ, List, ◌++◌, length, length-append, Option, Some, None, refl, sym, ◌∙◌, ap, subst, arith}
use Rattle.std.proofs.lemmas.List.{append-nil}
use Rattle.wire_base.specs.Causes.{Rose}
use Rattle.wire_base.specs.declared.frame.Version.{Version}
use Rattle.wire_base.specs.declared.reason.Reason.{Reason}
use Rattle.stream_view.specs.View.{view_refusal}
use Rattle.muxrpc_app.specs.Streams.{SourceState, SinkState, WasRead, HoldsNothing, ReadPast, most_input}
use Rattle.muxrpc_app.specs.Outcome.{ViewDone, Viewed, view_status}
use Rattle.muxrpc_app.specs.declared.status.Status.{Status}
use Rattle.muxrpc_app.specs.declared.status.Status.TheVariants as status

-- the view is written, and this is its status
pub view_done : (v : Version) (old new : SourceState) (before after : SinkState) (r : Option (ℕ × Reason)) (s : Status) → s ≡ view_status r → ViewDone v old new before after r → Viewed v old new before after s
view_done v old new before after None s e h = subst (Viewed v old new before after) (sym e) h
view_done v old new before after (Some x) s e h = subst (Viewed v old new before after) (sym e) h

some_is : (x y : List ℕ) → Some x ≡ Some y → x ≡ y
some_is x y e = cc

-- what was read to the end is all that was held
all_read : (old new : Option (List ℕ)) (bytes read : List ℕ) → old ≡ Some bytes → WasRead old new read → HoldsNothing new → read ≡ bytes
all_read old None bytes read e was none = absurd cc
all_read old (Some rest) bytes read e was none =
    sym (some_is bytes (read ++ rest) (sym e ∙ was) ∙ (ap (λ bs. read ++ bs) none ∙ append-nil read))

-- no more than was held is read
not_past : (old new : Option (List ℕ)) (bytes : List ℕ) → old ≡ Some bytes → length bytes ≤ most_input → ReadPast old new → ⊥
not_past old None bytes e within past = let was = past.1 in cc
not_past old (Some rest) bytes e within past =
    let is = some_is bytes (past.0 ++ rest) (sym e ∙ past.1) in
    omega (arith, ap length is, length-append past.0 rest, past.2, within)

pub view_completes : (v : Version) (bytes : List ℕ) (old new : SourceState) (before after : SinkState) (s : Status) → Viewed v old new before after s → old.held ≡ Some bytes → length bytes ≤ most_input → ¬ (Rose old.faults new.faults) → ¬ (Rose before.faults after.faults)
    → (s ≡ view_status (view_refusal v bytes)) ⊎ (s ≡ status.OutOfMemory)
view_completes v bytes old new before after status.Done h e within read written =
    inl (ap view_status (sym h.refusal) ∙ ap (λ bs. view_status (view_refusal v bs)) (all_read old.held new.held bytes h.capture.bytes e h.capture.was_read h.capture.at_end))
view_completes v bytes old new before after status.Usage h e within read written = absurd h
view_completes v bytes old new before after (status.ScriptRefused line number) h e within read written = absurd h
view_completes v bytes old new before after (status.StreamRefused place reason) h e within read written =
    inl (ap view_status (sym h.refusal) ∙ ap (λ bs. view_status (view_refusal v bs)) (all_read old.held new.held bytes h.capture.bytes e h.capture.was_read h.capture.at_end))
view_completes v bytes old new before after status.ReadFault h e within read written = absurd (read h.0)
view_completes v bytes old new before after status.WriteFault h e within read written = absurd (written h.cause)
view_completes v bytes old new before after status.LinkFault h e within read written = absurd h
view_completes v bytes old new before after status.OutOfMemory h e within read written = inr refl
view_completes v bytes old new before after status.TooLong h e within read written = absurd (not_past old.held new.held bytes e within h.0)
view_completes v bytes old new before after status.LinkEnded h e within read written = absurd h

pub ruleset completes = (view_completes)
