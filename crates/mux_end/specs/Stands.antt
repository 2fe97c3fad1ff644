-- When an end stands for a list of items.
use Rattle.std.specs.Prelude.{◌≡◌, ℕ, List}
use Rattle.wire_base.specs.States.{state_by}
use Rattle.wire_base.specs.declared.frame.Version.{Version}
use Rattle.wire_base.specs.declared.state.EndState.{EndState}
use Rattle.wire_base.specs.declared.state.EndState.TheVariants as state
use Rattle.mux_items.specs.Items.{Item, ended}
use Rattle.mux_items.specs.Applying.{Allowed}
use Rattle.mux_state.specs.Book.{Book, book_of}

-- the value of an end: what it keeps of its channels, its output, the bytes `rest` that were fed and aren't applied, and
-- the place `at` of the first of them
pub record EndValue : Type 0 where
  pub version : Version
  pub nonce : List ℕ
  pub book : Book
  pub output : List ℕ
  pub at : ℕ
  pub rest : List ℕ
  pub state : EndState

abbrev pub state_of : List Item → EndState
state_of items = state_by (ended items)

-- the end is as the items leave it, with these bytes not applied, the first of them at this place
pub record MuxStands (end : EndValue) (items : List Item) (at : ℕ) (rest : List ℕ) : Type 0 where
  pub book : end.book ≡ book_of end.version items
  pub at_is : end.at ≡ at
  pub rest_is : end.rest ≡ rest
  pub state : end.state ≡ state_of items
  pub allowed : Allowed end.version items
