-- What an end applied lies in the bytes that it was given.
use Rattle.std.specs.Prelude.{◌≡◌, ◌≤◌, ◌-◌, ℕ, List, [], length, true, false}
use Rattle.mux_items.specs.Items.{Item}
use Rattle.mux_items.specs.Due.{sent, got}
use Rattle.mux_items.specs.Refusals.{is_ready}
use Rattle.mux_run.specs.Run.{RunSide, SideTerms, greeting_size, whole_frames}

-- the handshake and the frames that these items applied lie in so many bytes of y
pub record LieWithin (w : SideTerms) (given : ℕ) (items : List Item) (y : RunSide) : Type 0 where
  pub greeted : is_ready w.version items ≡ true → greeting_size w ≤ given
  pub waits : is_ready w.version items ≡ false → got items ≡ []
  pub within : length (got items) ≤ length (whole_frames w.version (given - greeting_size w) (sent w.version y.items))
