-- What holds at every moment of every run.
use Rattle.std.specs.Prelude.{◌≡◌, ◌≤◌, ℕ, List, ◌++◌, length, take, false}
use Rattle.wire_base.specs.declared.frame.Version.{Version}
use Rattle.mux_items.specs.declared.channel.ChannelKey.{ChannelKey}
use Rattle.mux_items.specs.Bodies.{other_key, is_one}
use Rattle.mux_items.specs.Items.{Item, restricted}
use Rattle.mux_items.specs.Lists.{written, emitted, taken, handed, read_bytes, unread, window}
use Rattle.mux_run.specs.Run.{Terms}
use Rattle.mux_run.specs.Moments.{IsMomentOf}
use Rattle.mux_run.specs.declared.steps.Step.{Step}

abbrev pub IsPrefixOf : List ℕ → List ℕ → Type 0
IsPrefixOf xs ys = (rest : List ℕ) × (xs ++ rest ≡ ys)

-- what reads answered at x on channel c is a prefix of what x took, this of what y emitted, and this of what was written at y
pub record HasPrefixProperty (v : Version) (c : ChannelKey) (x y : List Item) : Type 0 where
  pub handed_within : handed v c x ≤ length (taken v c x)
  pub handed : read_bytes v c x ≡ take (handed v c x) (taken v c x)
  pub taken : IsPrefixOf (taken v c x) (take (emitted v (other_key c) y) (written (other_key c) y))
  pub emitted_within : emitted v (other_key c) y ≤ length (written (other_key c) y)

-- in versions 2 and 3 unread bytes never exceed the own window
abbrev pub KeepsWindow : Version → ChannelKey → List Item → Type 0
KeepsWindow v c items = is_one v ≡ false → length (unread v c items) ≤ window c items

-- a channel depends on the items that name it, the handshake and the end alone
pub record IsApart (v : Version) (c : ChannelKey) (items : List Item) : Type 0 where
  pub emitted : emitted v c (restricted c items) ≡ emitted v c items
  pub taken : taken v c (restricted c items) ≡ taken v c items
  pub handed : handed v c (restricted c items) ≡ handed v c items
  pub unread : unread v c (restricted c items) ≡ unread v c items

-- what holds of a channel from y to x
pub record IsSafeWay (v : Version) (c : ChannelKey) (x y : List Item) : Type 0 where
  pub prefix_property : HasPrefixProperty v c x y
  pub window_bound : KeepsWindow v c x
  pub isolation : IsApart v c x

-- both ways
pub record IsSafe (v : Version) (a b : List Item) : Type 0 where
  pub to_a : (c : ChannelKey) → IsSafeWay v c a b
  pub to_b : (c : ChannelKey) → IsSafeWay v c b a

-- at every moment
abbrev pub IsSafeRun : Terms → List Step → Type 0
IsSafeRun terms steps = (a b : List Item) → IsMomentOf terms steps a b → IsSafe terms.version a b
