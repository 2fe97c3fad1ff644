-- What holds of a side while it applies one item after the other.
use Rattle.std.specs.Prelude.{◌≡◌, ◌≤◌, ◌<◌, ℕ, List, [], ◌∷◌, true, false}
use Rattle.mux_items.specs.Due.{got}
use Rattle.mux_items.specs.Items.{is_running}
use Rattle.mux_items.specs.Limits.{most_bytes}
use Rattle.mux_items.specs.Refusals.{is_ready}
use Rattle.mux_run.specs.Run.{RunSide, Terms, SideTerms, terms_at_a, terms_at_b}
use Rattle.mux_run.specs.Linked.{Joined}
use Rattle.mux_run.specs.declared.steps.Side.{Side}
use Rattle.mux_run.specs.declared.steps.Side.TheVariants.{A, B}
use Rattle.endpoint_items.specs.Items.{EndItem}
use Rattle.endpoint_items.specs.Layers.{mux_of}
use Rattle.endpoint_items.specs.Allowed.{AreAllowed}
use Rattle.endpoint_run.specs.Next.{applied_bytes, bytes_left, settled_in}
use Rattle.endpoint_run.specs.Run.{EndWorld, EndStep, mux_side, begun}

-- the items with all that is whole applied; what a step makes of its side, from what it begins with
abbrev pub all_applied : SideTerms → (given : ℕ) → RunSide → List EndItem → List EndItem
all_applied w given y items = settled_in w given y (bytes_left w given items) items

-- a side with these items, to which so many bytes of y were delivered, may apply more of them. Its multiplexing end and y are
-- joined where so much of the other was delivered to each: to its own end just what that applied, while it runs
pub record IsMidway (w : SideTerms) (given : ℕ) (y : RunSide) (items : List EndItem) : Type 0 where
  pub own : ℕ
  pub peer : ℕ
  pub joined : Joined w (record { items = mux_of w.version items; delivered = own }) (record { items = y.items; delivered = peer })
  pub exact : is_running (mux_of w.version items) ≡ true → own ≡ applied_bytes w (mux_of w.version items)
  pub waits : is_ready w.version (mux_of w.version items) ≡ false → got (mux_of w.version items) ≡ []
  pub within : is_running (mux_of w.version items) ≡ true → applied_bytes w (mux_of w.version items) ≤ given
  pub allowed : AreAllowed w.version items
  pub most : given ≤ most_bytes

-- it goes on with one more item, which takes a byte at least and leads where the older ones do
pub record GoesOn (w : SideTerms) (given : ℕ) (y : RunSide) (items : List EndItem) (item : EndItem) : Type 0 where
  pub midway : IsMidway w given y (item ∷ items)
  pub smaller : bytes_left w given (item ∷ items) < bytes_left w given items
  pub same : all_applied w given y (item ∷ items) ≡ all_applied w given y items

-- so it stands where a step begins at this side
abbrev pub BeginsMidway : Terms → Side → EndStep → EndWorld → Type 0
BeginsMidway terms A s w =
    let b = begun (terms_at_a terms) s w.a w.b in
    IsMidway (terms_at_a terms) b.delivered (mux_side terms.version w.b) b.items
BeginsMidway terms B s w =
    let b = begun (terms_at_b terms) s w.b w.a in
    IsMidway (terms_at_b terms) b.delivered (mux_side terms.version w.a) b.items
