-- What a message that was written is read as.
use Rattle.std.specs.Prelude.{◌≡◌, ℕ, List, [], ◌∷◌, map, None, option_map}
use Rattle.wire_base.specs.Tree.{Tree, no_pairs, pairs_of, pair_list_of}
use Rattle.json_value.specs.Normal.{norm, norm_onto}
use Rattle.json_value.specs.Value.{IsValue}
use Rattle.rpc_items.specs.declared.messages.Params.{Params}
use Rattle.rpc_items.specs.declared.messages.Params.TheVariants.{Absent, Named}
use Rattle.rpc_items.specs.declared.messages.Params.TheVariants as params
use Rattle.rpc_items.specs.declared.messages.Message.{Message}
use Rattle.rpc_items.specs.declared.messages.Message.TheVariants.{Request, Notification}
use Rattle.rpc_items.specs.declared.messages.Message.TheVariants as message
use Rattle.rpc_items.specs.Bodies.{body_refusal}
use Rattle.rpc_items.specs.Told.{CanBeTold}
use Rattle.rpc_items.specs.Writing.{message_value}
use Rattle.message_body.specs.declared.encoding.Encoding.{Encoding}
use Rattle.message_body.specs.declared.encoding.Encoding.TheVariants.{Json, Pack}
use Rattle.message_body.specs.Written.{encoder}

-- the members of an object: in byte order of their keys, and of a repeated key the last, each in normal form
abbrev pub norm_members : List (List ℕ × Tree) → List (List ℕ × Tree)
norm_members ps = pair_list_of (norm_onto no_pairs (pairs_of ps))

-- parameters in normal form
abbrev pub norm_params : Params → Params
norm_params Absent = Absent
norm_params (params.List values) = params.List (map norm values)
norm_params (Named ps) = Named (norm_members ps)

-- a message with its data in normal form
abbrev pub norm_message : Message → Message
norm_message (Request id method given) = Request id method (norm_params given)
norm_message (Notification method given) = Notification method (norm_params given)
norm_message (message.Result id value) = message.Result id (norm value)
norm_message (message.Error id code text more) = message.Error id code text (option_map norm more)

-- what a message that was written is read as: in JSON its data in normal form, in MessagePack itself
abbrev pub as_read : Encoding → Message → Message
as_read Json m = norm_message m
as_read Pack m = m

-- what may stand in a message of the code: its id and its error's code are such, its numbers are in their range, and
-- its texts are UTF-8
pub record IsMessage (m : Message) : Type 0 where
  pub can_be_told : CanBeTold m
  pub value : IsValue (message_value m)

-- each of these is one
abbrev pub AreMessages : List Message → Type 0
AreMessages [] = Unit {0}
AreMessages (m ∷ ms) = IsMessage m × AreMessages ms

-- a message of the code that no rule refuses as a body
pub record IsWritable (encoding : Encoding) (m : Message) : Type 0 where
  pub message : IsMessage m
  pub accepted : body_refusal (encoder encoding) (message_value m) ≡ None
