-- Sequences that this end answered. Their tokens are numbered in the order in which they are drawn, from 1.
use Rattle.std.specs.Prelude.{ℕ, List, [], ◌∷◌, ◌++◌, length, nat_lt, if◌then◌else◌, Option}
use Rattle.wire_base.specs.Tree.{Tree}
use Rattle.rpc_items.specs.declared.calls.Answer.TheVariants as answer
use Rattle.rpc_items.specs.Items.{Respond, RpcItem, Did}
use Rattle.rpc_items.specs.Drawn.{with_number}

-- the values of a sequence, how many make a page, and how many go with the result
pub record Produced : Type 0 where
  pub values : List Tree
  pub page : ℕ
  pub first : ℕ

-- the sequence for which an item draws a token: one with more values than go with the result
abbrev pub produced_by : RpcItem → List Produced
produced_by (Did (Respond id (answer.Sequence values page first))) = if nat_lt first (length values) then (record { values = values; page = page; first = first }) ∷ [] else []
produced_by item = []

-- all of them, oldest first: the k-th has token k
abbrev pub produced : List RpcItem → List Produced
produced [] = []
produced (item ∷ items) = produced items ++ produced_by item

-- the last token that was drawn, 0 before the first
abbrev pub last_token : List RpcItem → ℕ
last_token items = length (produced items)

-- the sequence with this token
abbrev pub produced_at : ℕ → List RpcItem → Option Produced
produced_at token items = with_number token (produced items)
