-- Objects that this end offered. Their handles are numbered in the order in which they are drawn, from 1.
use Rattle.std.specs.Prelude.{ℕ, ◌+◌, List, [], ◌∷◌, ◌++◌, length, Option, Some, None}
use Rattle.rpc_items.specs.declared.calls.Arg.{Arg}
use Rattle.rpc_items.specs.declared.calls.Lifetime.{Lifetime}
use Rattle.rpc_items.specs.declared.calls.Lifetime.TheVariants.{Call, Explicit}
use Rattle.rpc_items.specs.declared.calls.Arg.TheVariants as arg
use Rattle.rpc_items.specs.declared.calls.Answer.TheVariants as answer
use Rattle.rpc_items.specs.Items.{Ask, Tell, Respond, Invoke, RpcItem, Did}
use Rattle.rpc_items.specs.Drawn.{arg_list, drawn}

-- an object that was offered by a handle, and the own request with whose response that ends
pub record Made : Type 0 where
  pub object : ℕ
  pub until : Option ℕ

-- the request with whose response a handle ends, by its lifetime
abbrev pub until_answer : Lifetime → Option ℕ → Option ℕ
until_answer Call request = request
until_answer Explicit request = None

-- the objects among arguments, left to right
abbrev pub made_in : (request : Option ℕ) → List Arg → List Made
made_in request [] = []
made_in request (arg.Object object lifetime ∷ args) = (record { object = object; until = until_answer lifetime request }) ∷ made_in request args
made_in request (a ∷ args) = made_in request args

-- the objects that an item offers, where a request draws this number
abbrev pub made_by : (number : ℕ) → RpcItem → List Made
made_by number (Did (Ask method args expect)) = made_in (Some number) (arg_list args)
made_by number (Did (Tell method args)) = made_in None (arg_list args)
made_by number (Did (Invoke handle method args expect)) = made_in (Some number) (arg_list args)
made_by number (Did (Respond id (answer.Object object))) = (record { object = object; until = None }) ∷ []
made_by number item = []

-- all of them, oldest first: the k-th has handle k
abbrev pub made : List RpcItem → List Made
made [] = []
made (item ∷ items) = made items ++ made_by (drawn items + 1) item

-- the last handle that was drawn, 0 before the first
abbrev pub last_handle : List RpcItem → ℕ
last_handle items = length (made items)
