-- Worked values: a message that can be written, and what it is read as.
use Rattle.std.specs.Prelude.{codes}
use Rattle.std.proofs.Common.{◌≡◌, [], ◌∷◌, refl}
use Rattle.std.proofs.lemmas.Str.{IsUtf8-from_is_utf8}
use Rattle.std.specs.Str.{is_utf8, chars}
use Rattle.json.specs.Print.{escape_byte}
use lib.Utf8.{encode}
use Rattle.wire_base.specs.Tree.{words, pairs_of}
use Rattle.json_value.specs.Value.{ArePairs}
use Rattle.rpc_items.specs.declared.messages.Message.{Message}
use Rattle.rpc_items.specs.declared.messages.Message.TheVariants.{Notification}
use Rattle.rpc_items.specs.declared.messages.Params.TheVariants.{Named}
use Rattle.message_body.specs.declared.encoding.Encoding.TheVariants.{Json, Pack}
use Rattle.message_body.specs.AsRead.{as_read, IsMessage, IsWritable}

-- a call with a name twice, and out of order
abbrev told : Message
told = Notification (codes "add") (Named ((codes "b", words (codes "1")) ∷ (codes "a", words (codes "2")) ∷ (codes "b", words (codes "3")) ∷ []))

ordered : as_read Json told ≡ Notification (codes "add") (Named ((codes "a", words (codes "2")) ∷ (codes "b", words (codes "3")) ∷ []))
ordered = refl

same : as_read Pack told ≡ told
same = refl

members : ArePairs (pairs_of ((codes "b", words (codes "1")) ∷ (codes "a", words (codes "2")) ∷ (codes "b", words (codes "3")) ∷ []))
unfolding is_utf8 chars encode
members = (IsUtf8-from_is_utf8 _ refl, IsUtf8-from_is_utf8 _ refl, (IsUtf8-from_is_utf8 _ refl, IsUtf8-from_is_utf8 _ refl, (IsUtf8-from_is_utf8 _ refl, IsUtf8-from_is_utf8 _ refl, tt)))

told_is : IsMessage told
unfolding is_utf8 chars encode
told_is = record {
  can_be_told = tt;
  value = (IsUtf8-from_is_utf8 _ refl, IsUtf8-from_is_utf8 _ refl, (IsUtf8-from_is_utf8 _ refl, IsUtf8-from_is_utf8 _ refl, (IsUtf8-from_is_utf8 _ refl, members, tt)));
}

in_json : IsWritable Json told
unfolding escape_byte
in_json = record { message = told_is; accepted = refl }

in_pack : IsWritable Pack told
in_pack = record { message = told_is; accepted = refl }
