-- The numbers of the handles that were adopted from the peer.
use Rattle.std.specs.Prelude.{ℕ, List, [], ◌∷◌, ◌==◌, nat_lt, is_some, filter, if◌then◌else◌, Option, Some, None}
use Rattle.std.specs.List.{flat_map}
use Rattle.rpc_items.specs.Items.{RpcItem}
use Rattle.rpc_items.specs.Objects.{Offered, offered_in, whole_arguments}
use Rattle.rpc_items.specs.PeerHandles.{adopted}
use Rattle.rpc_items.specs.Saying.{all_got}
use Rattle.rpc_items.specs.declared.messages.Message.{Message}
use Rattle.rpc_items.specs.declared.messages.Message.TheVariants as message
use Rattle.wire_base.specs.Tree.{Tree}

-- one more number among rising ones, where it isn't there
abbrev pub joined : ℕ → List ℕ → List ℕ
joined number [] = number ∷ []
joined number (n ∷ numbers) = if n == number then n ∷ numbers else if nat_lt n number then n ∷ joined number numbers else number ∷ (n ∷ numbers)

-- these numbers, rising and each of them once
abbrev pub rising : List ℕ → List ℕ
rising [] = []
rising (n ∷ numbers) = joined n (rising numbers)

-- the whole values of a message that may offer objects
abbrev pub whole_values : Message → List Tree
whole_values (message.Request id method params) = whole_arguments params
whole_values (message.Notification method params) = whole_arguments params
whole_values (message.Result id value) = value ∷ []
whole_values message = []

-- the handle of an offer that there may be
abbrev pub handle_of : Option Offered → List ℕ
handle_of (Some offered) = offered.handle ∷ []
handle_of None = []

-- the handles that a message offers
abbrev pub handles_in : Message → List ℕ
handles_in message = flat_map (λ value. handle_of (offered_in value)) (whole_values message)

-- the handles that were adopted, by rising number
abbrev pub adopted_numbers : List RpcItem → List ℕ
adopted_numbers items = rising (filter (λ number. is_some (adopted number items)) (flat_map handles_in (all_got items)))
