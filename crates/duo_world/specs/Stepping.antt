-- What a call and a step leave of two ends.
use Rattle.std.specs.Prelude.{◌≡◌, ℕ, ◌-◌, List, [], ◌∷◌, ◌++◌, length, drop, false, Option, Some, None}
use Rattle.wire_base.specs.declared.frame.Version.{Version}
use Rattle.mux_run.specs.declared.steps.Side.{Side}
use Rattle.mux_run.specs.declared.steps.Side.TheVariants.{A, B}
use Rattle.mux_run.specs.Run.{RunSide, Terms, SideTerms, terms_at_a, terms_at_b, turned, out}
use Rattle.endpoint_items.specs.declared.call.Call.{Call}
use Rattle.endpoint_items.specs.Asked.{made_by, reply_to}
use Rattle.endpoint_items.specs.Calls.{EndCall, called}
use Rattle.endpoint_items.specs.Items.{EndItem}
use Rattle.endpoint_items.specs.Layers.{mux_of}
use Rattle.endpoint.specs.Value.{EndpointValue}
use Rattle.endpoint_run.specs.declared.answers.DuoAnswer.{DuoAnswer}
use Rattle.endpoint_run.specs.declared.answers.DuoAnswer.TheVariants as duo
use Rattle.endpoint_items.specs.declared.reply.Reply.{Reply}
use Rattle.endpoint_run.specs.declared.steps.Step.{Step}
use Rattle.endpoint_run.specs.declared.steps.Step.TheVariants as step
use Rattle.endpoint_run.specs.Answers.{answer_at, answer, made_step, made_steps, side_of, side_by, world_by, run}
use Rattle.endpoint_run.specs.Exchange.{IsExchangeRun}
use Rattle.endpoint_run.specs.Handles.{HandlesRestRun}
use Rattle.endpoint_run.specs.Midway.{IsMidway}
use Rattle.endpoint_run.specs.Run.{EndSide, EndWorld, mux_side}
use Rattle.endpoint_run.specs.Safe.{IsSafeRun}
use Rattle.endpoint_run.specs.Settled.{IsSettled}
use Rattle.duo_world.specs.Holding.{StandsForSide, StandForSides, StandForWorld, HaveNonces, DuoState, StandsForRun}
use Rattle.duo_world.specs.Settling.{side_with}

-- two ends stand for the sides x and y of a run, between two of its steps
pub record IsBetweenSteps (w : SideTerms) (own peer : EndpointValue) (x y : EndSide) : Type 0 where
  pub nonces : HaveNonces w
  pub stand : StandForSides w own peer x y
  pub own_midway : IsMidway w x.delivered (mux_side w.version y) x.items
  pub peer_midway : IsMidway (turned w) y.delivered (mux_side w.version x) y.items

-- the items of an end that makes a call; a question makes none
abbrev pub called_by : Version → Option EndCall → List EndItem → List EndItem
called_by v (Some c) items = called v c items
called_by v None items = items

-- a call is answered as the rules say, and the end then stands for what it leaves
abbrev pub Calls : SideTerms → Call → EndpointValue → EndSide → RunSide → Reply → Type 0
Calls w c new x y r = (r ≡ reply_to w.version c x.items) × StandsForSide w new (side_with (called_by w.version (made_by c) x.items) x.delivered) y

-- a step at x answers as the run says, and leaves the two ends so
abbrev pub StepsAt : SideTerms → Step → EndpointValue → EndpointValue → EndSide → EndSide → DuoAnswer → Type 0
StepsAt w s own peer x y a = (a ≡ answer_at w s x y) × StandForSides w own peer (side_by w (made_step s) x y) y

-- the same of a step at either side
abbrev pub StepsIn : Terms → Step → EndpointValue → EndpointValue → EndWorld → DuoAnswer → Type 0
StepsIn terms s a b w reply = (reply ≡ answer terms s w) × StandForWorld terms a b (world_by terms (made_step s) w)

-- the bytes that a side emitted as it went from x to x'
abbrev pub newly_out : SideTerms → EndSide → EndSide → List ℕ
newly_out w x x' = drop (length (out w.version w.own (mux_of w.version x.items))) (out w.version w.own (mux_of w.version x'.items))

-- in a step at x its end emits, and from the other's output goes what was delivered
pub record Emits (w : SideTerms) (x x' : EndSide) (own own' peer peer' : EndpointValue) : Type 0 where
  pub own_output : own'.mux.output ≡ own.mux.output ++ newly_out w x x'
  pub peer_output : peer'.mux.output ≡ drop (x'.delivered - x.delivered) peer.mux.output

-- the same of a step at either side, between two worlds
abbrev pub EmitsOn : Side → Terms → (w w' : EndWorld) → (a a' b b' : EndpointValue) → Type 0
EmitsOn A terms w w' a a' b b' = Emits (terms_at_a terms) w.a w'.a a a' b b'
EmitsOn B terms w w' a a' b b' = Emits (terms_at_b terms) w.b w'.b b b' a a'

-- what holds of the run of the steps that a Duo made: at every moment it is safe, keeps its credit and has one outcome for
-- each request, its connections exchange messages and the pages of sequences in order and answer a request once at most, and
-- handles rest after their end; at its end nothing whole is left to either side
pub record RunHolds (terms : Terms) (steps : List Step) : Type 0 where
  pub safe : IsSafeRun terms (made_steps steps)
  pub exchange : IsExchangeRun terms (made_steps steps)
  pub handles : HandlesRestRun terms (made_steps steps)
  pub settled : IsSettled terms (run terms steps)

-- a step was made: it answers as the run says, is stored, and the ends stand for the run with it
pub record IsStepped (old new : DuoState) (s : Step) (reply : DuoAnswer) : Type 0 where
  pub reply_is : reply ≡ answer old.terms s (run old.terms old.steps)
  pub steps_are : new.steps ≡ old.steps ++ s ∷ []
  pub terms_are : new.terms ≡ old.terms
  pub works : new.failed ≡ false
  pub stands : StandsForRun new
  pub run_holds : RunHolds new.terms new.steps
  pub emits : EmitsOn (side_of s) old.terms (run old.terms old.steps) (run new.terms new.steps) old.a new.a old.b new.b

-- a step is made; after want of memory nothing is promised
abbrev pub Steps : DuoState → DuoState → Step → DuoAnswer → Type 0
Steps old new s duo.OutOfMemory = Unit {0}
Steps old new s (duo.Replied reply events) = IsStepped old new s (duo.Replied reply events)
Steps old new s (duo.Delivered count events) = IsStepped old new s (duo.Delivered count events)
Steps old new s duo.Ended = IsStepped old new s duo.Ended
