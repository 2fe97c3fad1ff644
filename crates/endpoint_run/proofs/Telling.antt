-- What steps tell: the events of the items that they add. A question adds none.
use Rattle.std.specs.Prelude.{if◌then◌else◌}
use Rattle.std.proofs.Common.{◌≡◌, ℕ, ◌≤◌, arith, List, [], ◌∷◌, ◌++◌, length, refl, ◌∙◌, ap, length-append, Option, Some, None}
use Rattle.std.proofs.lemmas.Bool.{lt-ltb, le-ltb}
use Rattle.wire_base.specs.declared.frame.Version.{Version}
use Rattle.mux_items.specs.declared.channel.ChannelKey.{ChannelKey}
use Rattle.mux_run.specs.Run.{Terms, SideTerms}
use Rattle.mux_run.specs.declared.steps.Side.{Side}
use Rattle.endpoint_items.specs.declared.call.Call.TheVariants as call
use Rattle.endpoint_items.specs.Items.{EndItem}
use Rattle.endpoint_run.specs.Answers.{events_of, events_since, events_after, made_step, if_made, made_steps, world_by, TellsOfNew, run}
use Rattle.endpoint_run.specs.Run.{EndSide, EndWorld, EndStep, turns_of, happens, start, run_from, end_run}
use Rattle.endpoint_run.specs.declared.steps.Step.{Step}
use Rattle.endpoint_run.specs.declared.steps.Step.TheVariants as step
use Rattle.endpoint_run.proofs.Growing.{side_newer}

-- steps one after the other

run_from-append : (terms : Terms) (w : EndWorld) (steps more : List EndStep) → run_from terms w (steps ++ more) ≡ run_from terms (run_from terms w steps) more
run_from-append terms w [] more = refl
run_from-append terms w (s ∷ steps) more = run_from-append terms (happens terms s w) steps more

if_made-append : (made : Option EndStep) (steps more : List EndStep) → if_made made (steps ++ more) ≡ if_made made steps ++ more
if_made-append (Some s) steps more = refl
if_made-append None steps more = refl

made_steps-append : (steps more : List Step) → made_steps (steps ++ more) ≡ made_steps steps ++ made_steps more
made_steps-append [] more = refl
made_steps-append (s ∷ steps) more = ap (if_made (made_step s)) (made_steps-append steps more) ∙ if_made-append (made_step s) (made_steps steps) (made_steps more)

one_made : (terms : Terms) (made : Option EndStep) (w : EndWorld) → run_from terms w (if_made made []) ≡ world_by terms made w
one_made terms (Some s) w = refl
one_made terms None w = refl

pub run_goes_on : (terms : Terms) (s : Step) (steps : List Step) → run terms (steps ++ s ∷ []) ≡ world_by terms (made_step s) (run terms steps)
run_goes_on terms s steps =
    ap (end_run terms) (made_steps-append steps (s ∷ []))
    ∙ (run_from-append terms start (made_steps steps) (if_made (made_step s) []) ∙ one_made terms (made_step s) (run terms steps))

pub question_same : (terms : Terms) (side : Side) (c : ChannelKey) (n : ℕ) (steps : List Step) → run terms (steps ++ step.Call side (call.Outcome c n) ∷ []) ≡ run terms steps
question_same terms side c n steps = run_goes_on terms (step.Call side (call.Outcome c n)) steps

-- the events of newer items

pub events_none : (v : Version) (older : ℕ) (items : List EndItem) → length items ≤ older → events_since v older items ≡ []
events_none v older [] h = refl
events_none v older (item ∷ items) h = ap (λ b. if b then [] else events_since v older items ++ events_of v item items) (lt-ltb (length items) older (omega (arith, h)))

pub events_pushed : (v : Version) (older : ℕ) (item : EndItem) (items : List EndItem) → older ≤ length items → events_since v older (item ∷ items) ≡ events_since v older items ++ events_of v item items
events_pushed v older item items h = ap (λ b. if b then [] else events_since v older items ++ events_of v item items) (le-ltb (length items) older h)

events_newer : (v : Version) (older newer : List EndItem) → events_since v (length older) (newer ++ older) ≡ events_after v older newer
events_newer v older [] = events_none v (length older) older (omega arith)
events_newer v older (item ∷ newer) =
    events_pushed v (length older) item (newer ++ older) (omega (arith, length-append newer older))
    ∙ ap (λ events. events ++ events_of v item (newer ++ older)) (events_newer v older newer)

pub tells_of_new : (w : SideTerms) (s : EndStep) (x y : EndSide) → TellsOfNew w s x y
tells_of_new w s x y =
    let added = side_newer w (turns_of w s x y) s x y in
    record { newer = added.0; items_are = added.1; events_are = ap (events_since w.version (length x.items)) added.1 ∙ events_newer w.version x.items added.0 }
