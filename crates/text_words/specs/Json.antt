-- What the JSON texts of a script are read as: values, ids, texts and arguments.
use Rattle.std.specs.Prelude.{ℕ, ℤ, pos, negsuc, List, true, Option, Some, None, option_map, option_and_then, map, if◌then◌else◌, codes}
use Rattle.std.specs.Str.{bytes_eq}
use Rattle.serde_json.specs.Read.{read}
use Rattle.wire_base.specs.Tree.{Tree, flag, whole, words, items, pairs, item, no_items, pair, no_pairs, list_of, pair_list_of}
use Rattle.wire_base.specs.declared.text.Id.{Id}
use Rattle.json_value.specs.Reading.{tree_of}
use Rattle.rpc_items.specs.declared.calls.Arg.{Arg}
use Rattle.rpc_items.specs.declared.calls.Arg.TheVariants.{Plain, Progress, Object, Handed}
use Rattle.rpc_items.specs.declared.calls.Arguments.{Arguments}
use Rattle.rpc_items.specs.declared.calls.Arguments.TheVariants.{Absent, List as Listed, Named}
use Rattle.rpc_items.specs.declared.calls.Lifetime.{Lifetime}
use Rattle.rpc_items.specs.declared.calls.Lifetime.TheVariants.{Call, Explicit}
use Rattle.rpc_items.specs.Ids.{id_in}
use Rattle.text_words.specs.Written.{hyphen}
use Rattle.text_words.specs.Reading.{◌>>=◌}

-- the value that a text is as JSON, if it is one and each number in it is a whole one
unfoldable pub json_in : List ℕ → Option Tree
json_in text = option_and_then tree_of (read text)

-- the id that a word is as JSON
unfoldable pub json_id_in : List ℕ → Option Id
json_id_in word = option_and_then id_in (json_in word)

-- the text that a value is
abbrev pub text_of : Tree → Option (List ℕ)
text_of (words text) = Some text
text_of value = None

-- the text that a text is as a JSON string
unfoldable pub string_in : List ℕ → Option (List ℕ)
string_in text = option_and_then text_of (json_in text)

-- the values that an array has
abbrev pub values_of : Tree → Option (List Tree)
values_of (items values) = Some (list_of values)
values_of value = None

-- the values of the JSON array that a text is
unfoldable pub array_in : List ℕ → Option (List Tree)
array_in text = option_and_then values_of (json_in text)

-- the lifetime with this name
abbrev pub lifetime_in : List ℕ → Option Lifetime
lifetime_in name = if bytes_eq name (codes "call") then Some Call else if bytes_eq name (codes "explicit") then Some Explicit else None

-- the number, if it is from 0 up
abbrev pub natural_of : ℤ → Option ℕ
natural_of (pos n) = Some n
natural_of (negsuc n) = None

-- the number from 0 up that a value is
abbrev pub natural_in : Tree → Option ℕ
natural_in (whole z) = natural_of z
natural_in value = None

-- the token by which progress is reported, which true stands for
abbrev pub progress_in : Tree → Option Arg
progress_in (flag true) = Some Progress
progress_in value = None

-- the object that its number and the name of its lifetime tell
abbrev pub object_of : Tree → Tree → Option Arg
object_of number name = do
  n ← natural_in number
  text ← text_of name
  lifetime ← lifetime_in text
  Some (Object n lifetime)

-- such an object, in a list of both
abbrev pub object_in : Tree → Option Arg
object_in (items (item number (item name no_items))) = object_of number name
object_in value = None

-- the handle of the peer with this number
abbrev pub handed_in : Tree → Option Arg
handed_in value = option_map Handed (natural_in value)

-- what a map of one member stands for, if it stands for more than itself
abbrev pub marked : List ℕ → Tree → Option Arg
marked key value =
    if bytes_eq key (codes "$progress") then progress_in value
    else if bytes_eq key (codes "$object") then object_in value
    else if bytes_eq key (codes "$handed") then handed_in value
    else None

-- the marked argument that a value stands for, if it does
abbrev pub marked_in : Tree → Option Arg
marked_in (pairs (pair key value no_pairs)) = marked key value
marked_in value = None

abbrev pub or_plain : Tree → Option Arg → Arg
or_plain value (Some arg) = arg
or_plain value None = Plain value

-- the argument that an element stands for
abbrev pub arg_of : Tree → Arg
arg_of value = or_plain value (marked_in value)

-- the arguments that a value stands for: those in order, or those by name
abbrev pub arguments_of : Tree → Option Arguments
arguments_of (items values) = Some (Listed (map arg_of (list_of values)))
arguments_of (pairs members) = Some (Named (pair_list_of members))
arguments_of value = None

-- the arguments that a text stands for; the hyphen stands for none
unfoldable pub arguments_in : List ℕ → Option Arguments
arguments_in text = if bytes_eq text hyphen then Some Absent else option_and_then arguments_of (json_in text)
