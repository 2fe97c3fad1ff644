-- Arguments that are refused.
use Rattle.std.specs.Prelude.{ℕ, ◌+◌, List, [], ◌∷◌, length, Bool, true, false, not, nat_lt, if◌then◌else◌, Option, Some, None}
use Rattle.std.specs.List.{list_any}
use Rattle.wire_base.specs.declared.refusal.Refusal.{Refusal}
use Rattle.wire_base.specs.declared.refusal.Refusal.TheVariants as refusal
use Rattle.rpc_items.specs.declared.calls.Arg.{Arg}
use Rattle.rpc_items.specs.declared.calls.Arguments.{Arguments}
use Rattle.rpc_items.specs.declared.calls.Lifetime.TheVariants.{Call}
use Rattle.rpc_items.specs.declared.calls.Arg.TheVariants as arg
use Rattle.rpc_items.specs.declared.calls.Arguments.TheVariants as arguments
use Rattle.rpc_items.specs.declared.limits.TheConstants.{MOST_DRAWN}
use Rattle.rpc_items.specs.Keys.{peer_key}
use Rattle.rpc_items.specs.Objects.{is_reserved_value}
use Rattle.rpc_items.specs.Items.{RpcItem}
use Rattle.rpc_items.specs.Drawn.{arg_list}
use Rattle.rpc_items.specs.Made.{made_in, last_handle}
use Rattle.rpc_items.specs.Handles.{is_made, has_ended}

-- the most requests, handles and tokens of one connection, each
abbrev pub most_drawn : ℕ
most_drawn = MOST_DRAWN

-- whether a plain argument is a map that callers may not pass
abbrev pub is_reserved_arg : Arg → Bool
is_reserved_arg (arg.Plain value) = is_reserved_value value
is_reserved_arg a = false

-- whether one of the arguments is such a map
abbrev pub has_reserved : Arguments → Bool
has_reserved arguments.Absent = false
has_reserved (arguments.List args) = list_any is_reserved_arg args
has_reserved (arguments.Named ps) = list_any (λ p. is_reserved_value p.1) ps

-- the handles that go back to their owner
abbrev pub handed : List Arg → List ℕ
handed [] = []
handed (arg.Handed handle ∷ args) = handle ∷ handed args
handed (a ∷ args) = handed args

-- why arguments are refused; each refusal is looked for in all of them before the next one is
abbrev pub args_refusal : Arguments → List RpcItem → Option Refusal
args_refusal args items =
    if has_reserved args then Some refusal.ReservedMember
    else if list_any (λ handle. not (is_made (peer_key handle) items)) (handed (arg_list args)) then Some refusal.NoHandle
    else if list_any (λ handle. has_ended (peer_key handle) items) (handed (arg_list args)) then Some refusal.Released
    else if nat_lt most_drawn (last_handle items + length (made_in None (arg_list args))) then Some refusal.TooManyHandles
    else None

-- whether an argument is progress, or an object whose handle ends with a response
abbrev pub needs_request : Arg → Bool
needs_request arg.Progress = true
needs_request (arg.Object object Call) = true
needs_request a = false
