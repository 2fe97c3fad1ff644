-- Arguments as they are said, one by one, plain answers, and the message that releases a handle.
use Rattle.std.specs.Prelude.{ℕ, codes, [], ◌∷◌, Bool, true, false}
use Rattle.rpc_items.specs.Ids.{count_value}
use Rattle.rpc_items.specs.Methods.{release_object}
use Rattle.rpc_items.specs.Objects.{handed_value, object_value}
use Rattle.rpc_items.specs.declared.calls.Arg.{Arg}
use Rattle.rpc_items.specs.declared.calls.Arg.TheVariants as arg
use Rattle.rpc_items.specs.declared.calls.Answer.{Answer}
use Rattle.rpc_items.specs.declared.calls.Answer.TheVariants as answer
use Rattle.rpc_items.specs.declared.calls.HandleKey.{HandleKey}
use Rattle.rpc_items.specs.declared.messages.Message.{Message}
use Rattle.rpc_items.specs.declared.messages.Message.TheVariants as message
use Rattle.rpc_items.specs.declared.messages.Params.TheVariants as params
use Rattle.wire_base.specs.Tree.{Tree}
use Rattle.wire_base.specs.Tree as tree

-- whether an argument asks for progress
abbrev pub is_progress : Arg → Bool
is_progress arg.Progress = true
is_progress a = false

-- an argument as it is said in a request of number n, where an object gets this handle
abbrev pub arg_value : (n handle : ℕ) → Arg → Tree
arg_value n handle (arg.Plain value) = value
arg_value n handle arg.Progress = count_value n
arg_value n handle (arg.Object object lifetime) = object_value handle lifetime
arg_value n handle (arg.Handed handed) = handed_value handed

-- whether an answer is a value or an error
abbrev pub is_plain_answer : Answer → Bool
is_plain_answer (answer.Value value) = true
is_plain_answer (answer.Fault code text more) = true
is_plain_answer given = false

-- a notification that releases a handle
abbrev pub release_message : HandleKey → Message
release_message key = message.Notification release_object (params.Named ((codes "handle", count_value key.number) ∷ (codes "ownedBySender", tree.flag key.own) ∷ []))
