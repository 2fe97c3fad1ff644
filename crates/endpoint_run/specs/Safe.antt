-- What holds of every run.
use Rattle.std.specs.Prelude.{◌≡◌, ℕ, List, ◌++◌, Bool, false}
use Rattle.wire_base.specs.declared.frame.Version.{Version}
use Rattle.mux_items.specs.declared.channel.ChannelKey.{ChannelKey}
use Rattle.mux_run.specs.Run.{Terms}
use Rattle.mux_run.specs.Safe.{IsSafe}
use Rattle.mux_credit.specs.Runs.{KeepsCredit}
use Rattle.rpc_items.specs.Stable.{IsStable, IsReal}
use Rattle.endpoint_items.specs.Items.{EndItem}
use Rattle.endpoint_items.specs.Allowed.{AreAllowed}
use Rattle.endpoint_items.specs.Connections.{items_of}
use Rattle.endpoint_items.specs.Layers.{rpc_of}
use Rattle.endpoint_items.specs.Outcomes.{outcome_on}
use Rattle.endpoint_run.specs.Run.{EndWorld, EndStep}
use Rattle.endpoint_run.specs.Moments.{Moment, at_moment}
use Rattle.endpoint_run.specs.Finer.{mux_a, mux_b}

-- a request has one outcome: that which was known after older items stays until it is forgotten, and it is the first
-- response, or the end or the stop with no response before it
pub record HasOneOutcome (v : Version) (items : List EndItem) : Type 0 where
  pub stays : (c : ChannelKey) (n : ℕ) (newer older : List EndItem) → items ≡ newer ++ older → IsStable n (items_of (rpc_of v c items)) (outcome_on false v c n older)
  pub real : (stopped : Bool) (c : ChannelKey) (n : ℕ) → IsReal stopped n (items_of (rpc_of v c items)) (outcome_on stopped v c n items)

-- the multiplexing ends are safe and keep their credit, and each request of either side has one outcome
pub record IsEndSafe (terms : Terms) (w : EndWorld) : Type 0 where
  pub mux : IsSafe terms.version (mux_a terms w) (mux_b terms w)
  pub credit : KeepsCredit terms (mux_a terms w) (mux_b terms w)
  pub outcomes_a : HasOneOutcome terms.version w.a.items
  pub outcomes_b : HasOneOutcome terms.version w.b.items

-- so it is at each moment after these steps
abbrev pub IsSafeRun : Terms → List EndStep → Type 0
IsSafeRun terms steps = (moment : Moment) → IsEndSafe terms (at_moment terms steps moment)

-- each item at both sides was allowed where it stands
pub record KeepsRules (terms : Terms) (w : EndWorld) : Type 0 where
  pub a : AreAllowed terms.version w.a.items
  pub b : AreAllowed terms.version w.b.items

-- so it is at each moment after these steps
abbrev pub KeepsRulesRun : Terms → List EndStep → Type 0
KeepsRulesRun terms steps = (moment : Moment) → KeepsRules terms (at_moment terms steps moment)
