-- Requests that this end made. They are numbered in the order in which they are drawn, from 1.
use Rattle.std.specs.Prelude.{ℕ, ◌-◌, List, [], ◌∷◌, ◌++◌, length, Bool, true, false, ◌&&◌, ◌==◌, nat_lt, nat_le, slice_get, if◌then◌else◌, Option, Some, None}
use Rattle.rpc_items.specs.declared.calls.Arg.{Arg}
use Rattle.rpc_items.specs.declared.calls.Arguments.{Arguments}
use Rattle.rpc_items.specs.declared.calls.Arguments.TheVariants.{Absent, Named}
use Rattle.rpc_items.specs.declared.calls.Expect.{Expect}
use Rattle.rpc_items.specs.declared.calls.Expect.TheVariants.{Plain}
use Rattle.rpc_items.specs.declared.calls.Arg.TheVariants as arg
use Rattle.rpc_items.specs.declared.calls.Arguments.TheVariants as arguments
use Rattle.rpc_items.specs.Items.{Ask, Cancel, Next, Invoke, Forget, RpcItem, Did}

-- the one with this number, where they are numbered from 1
abbrev pub with_number : {A : Type 0} → ℕ → List A → Option A
with_number n xs = if n == 0 then None else slice_get xs (n - 1)

-- the arguments that are given in order
abbrev pub arg_list : Arguments → List Arg
arg_list Absent = []
arg_list (arguments.List args) = args
arg_list (Named ps) = []

-- whether one of them asks for reports of progress
abbrev pub has_progress_arg : List Arg → Bool
has_progress_arg [] = false
has_progress_arg (arg.Progress ∷ args) = true
has_progress_arg (a ∷ args) = has_progress_arg args

-- a request of this end: what is made of its result, whether it asked for progress, and the request whose sequence it turns a page of
pub record Asked : Type 0 where
  pub expect : Expect
  pub progress : Bool
  pub page_of : Option ℕ

-- the request that an item draws
abbrev pub asked_by : RpcItem → List Asked
asked_by (Did (Ask method args expect)) = (record { expect = expect; progress = has_progress_arg (arg_list args); page_of = None }) ∷ []
asked_by (Did (Next n)) = (record { expect = Plain; progress = false; page_of = Some n }) ∷ []
asked_by (Did (Invoke handle method args expect)) = (record { expect = expect; progress = has_progress_arg (arg_list args); page_of = None }) ∷ []
asked_by item = []

-- all of them, oldest first: the k-th has number k
abbrev pub asked : List RpcItem → List Asked
asked [] = []
asked (item ∷ items) = asked items ++ asked_by item

-- the last number that was drawn, 0 before the first
abbrev pub drawn : List RpcItem → ℕ
drawn items = length (asked items)

-- whether a request has this number
abbrev pub is_drawn : ℕ → List RpcItem → Bool
is_drawn n items = nat_lt 0 n && nat_le n (drawn items)

-- the request with this number
abbrev pub asked_at : ℕ → List RpcItem → Option Asked
asked_at n items = with_number n (asked items)

-- whether a request was forgotten
abbrev pub is_forgotten : ℕ → List RpcItem → Bool
is_forgotten n [] = false
is_forgotten n (Did (Forget m) ∷ items) = if m == n then true else is_forgotten n items
is_forgotten n (item ∷ items) = is_forgotten n items

-- whether a request was cancelled here
abbrev pub is_cancelled : ℕ → List RpcItem → Bool
is_cancelled n [] = false
is_cancelled n (Did (Cancel m) ∷ items) = if m == n then true else is_cancelled n items
is_cancelled n (item ∷ items) = is_cancelled n items
