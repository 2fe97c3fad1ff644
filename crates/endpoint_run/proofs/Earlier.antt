-- What was said at an earlier moment of a run was said at its end, too.
use Rattle.std.proofs.Common.{◌≡◌, ℕ, ◌+◌, List, [], ◌∷◌, ◌++◌, sym, ◌∙◌, subst, append_assoc, arith, Some, None}
use Rattle.wire_base.specs.declared.frame.Version.{Version}
use Rattle.message_body.specs.AsRead.{AreMessages}
use Rattle.mux_run.specs.Run.{Terms}
use Rattle.rpc_items.specs.declared.messages.Message.{Message}
use Rattle.rpc_items.specs.Items.{RpcItem}
use Rattle.rpc_items.specs.Saying.{said, all_said}
use Rattle.endpoint_items.specs.Connections.{Connection, items_of}
use Rattle.endpoint_items.specs.Items.{EndItem}
use Rattle.endpoint_items.specs.Layers.{rpc_of}
use Rattle.endpoint_items.specs.Outcomes as connection
use Rattle.endpoint_items.proofs.Growing.{newer_grew}
use Rattle.endpoint_run.specs.Exchange.{SaysMessages, SayMessages}
use Rattle.endpoint_run.specs.Moments.{After, Within, Moment, IsNewer, HasGrown, IsInRun, at_moment}
use Rattle.endpoint_run.specs.Run.{EndWorld, EndStep, side_of, happens, in_step, start, end_run}
use Rattle.endpoint_run.specs.Settled.{turns_at}
use Rattle.endpoint_run.proofs.Growing.{turns_grown, run_grown, more_grown, run_from-append}
use Rattle.endpoint_run.proofs.Settled.{run_enough}

-- the first of messages are messages

first_are : (first later : List Message) → AreMessages (first ++ later) → AreMessages first
first_are [] later are = tt
first_are (m ∷ first) later are = (are.0, first_are first later are.1)

older_are : (newer older : List RpcItem) → AreMessages (all_said (newer ++ older)) → AreMessages (all_said older)
older_are [] older are = are
older_are (item ∷ newer) older are = older_are newer older (first_are (all_said (newer ++ older)) (said item (newer ++ older)) are)

connection_are : (x y : Connection) → connection.HasGrown x y → AreMessages (all_said (items_of y)) → AreMessages (all_said (items_of x))
connection_are (Some items) y g are = older_are g.0 items (subst (λ y. AreMessages (all_said (items_of y))) g.1 are)
connection_are None y g are = tt

older_say : (v : Version) (before after : List EndItem) → IsNewer before after → SaysMessages v after → SaysMessages v before
older_say v before after newer says c =
    connection_are (rpc_of v c before) (rpc_of v c (newer.0 ++ before)) (newer_grew v c newer.0 before) (subst (λ items. SaysMessages v items) newer.1 says c)

pub said_before : (terms : Terms) (before after : EndWorld) → HasGrown before after → SayMessages terms after → SayMessages terms before
said_before terms before after grown say = record {
  a = older_say terms.version before.a.items after.a.items grown.a say.a;
  b = older_say terms.version before.b.items after.b.items grown.b say.b;
}

-- from a moment of a run to its end

within_grown : (terms : Terms) (first : List EndStep) (s : EndStep) (turns : ℕ) → HasGrown (in_step terms turns s (end_run terms first)) (happens terms s (end_run terms first))
within_grown terms first s turns =
    let w = end_run terms first in
    let enough = turns + turns_at terms (side_of s) s w in
    subst (HasGrown (in_step terms turns s w)) (run_enough terms first s enough (omega arith)) (turns_grown terms turns enough s w (omega arith))

after_step : (terms : Terms) (first : List EndStep) (s : EndStep) → end_run terms (first ++ s ∷ []) ≡ happens terms s (end_run terms first)
after_step terms first s = run_from-append terms start first (s ∷ [])

pub moment_grown : (terms : Terms) (steps first : List EndStep) (moment : Moment) → IsInRun steps first moment → HasGrown (at_moment terms first moment) (end_run terms steps)
moment_grown terms steps first After is =
    let whole : first ++ is.later ≡ steps = is.is in
    subst (λ steps. HasGrown (end_run terms first) (end_run terms steps)) whole (run_grown terms first is.later)
moment_grown terms steps first (Within s turns) is =
    let now = in_step terms turns s (end_run terms first) in
    let next = end_run terms (first ++ s ∷ []) in
    let made : HasGrown now next = subst (HasGrown now) (sym (after_step terms first s)) (within_grown terms first s turns) in
    let whole : (first ++ s ∷ []) ++ is.later ≡ steps = append_assoc first (s ∷ []) is.later ∙ is.is in
    more_grown now next (end_run terms steps) made (subst (λ steps. HasGrown next (end_run terms steps)) whole (run_grown terms (first ++ s ∷ []) is.later))
