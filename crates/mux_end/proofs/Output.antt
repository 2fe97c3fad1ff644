-- What is taken from an end's output.
use Rattle.std.specs.Prelude.{ℕ, List}
use Rattle.mux_items.specs.Items.{Item}
use Rattle.mux_end.specs.Stands.{EndValue, MuxStands}
use Rattle.mux_end.specs.Ends.{with_output}

-- the end stands for the same items with any output
pub output_taken : (end : EndValue) (bytes : List ℕ) (items : List Item) (at : ℕ) (rest : List ℕ) → MuxStands end items at rest → MuxStands (with_output bytes end) items at rest
output_taken end bytes items at rest s = record { book = s.book; at_is = s.at_is; rest_is = s.rest_is; state = s.state; allowed = s.allowed }
