-- Which words are a command.
use Rattle.std.specs.Prelude.{ℕ, List, [], ◌∷◌, Option, Some, None, option_map, ◌&&◌, if◌then◌else◌, codes}
use Rattle.std.specs.Str.{bytes_eq}
use Rattle.wire_base.specs.declared.frame.Version.{Version}
use Rattle.wire_base.specs.declared.frame.Version.TheVariants.{One, Two, Three}
use Rattle.muxrpc_app.specs.declared.words.Command.{Command}
use Rattle.muxrpc_app.specs.declared.words.Command.TheVariants.{Replay, View}

-- the version that a word is
abbrev pub version_in : List ℕ → Option Version
version_in word = if bytes_eq word (codes "1") then Some One else if bytes_eq word (codes "2") then Some Two else if bytes_eq word (codes "3") then Some Three else None

-- the version of an option in one word
abbrev pub joined_in : List ℕ → Option Version
joined_in word =
    if bytes_eq word (codes "--version=1") then Some One
    else if bytes_eq word (codes "--version=2") then Some Two
    else if bytes_eq word (codes "--version=3") then Some Three
    else None

-- the command that one word is: `replay`
abbrev pub alone_in : (word : List ℕ) → Option Command
alone_in word = if bytes_eq word (codes "replay") then Some Replay else None

-- `view` with its version in one word more
abbrev pub joined_command_in : (word option : List ℕ) → Option Command
joined_command_in word option = if bytes_eq word (codes "view") then option_map View (joined_in option) else None

-- `view` with its version in two words more
abbrev pub parted_command_in : (word option number : List ℕ) → Option Command
parted_command_in word option number = if bytes_eq word (codes "view") && bytes_eq option (codes "--version") then option_map View (version_in number) else None

-- what the words ask for, of which the first is the program's name
abbrev pub command_in : List (List ℕ) → Option Command
command_in [] = None
command_in (name ∷ []) = None
command_in (name ∷ word ∷ []) = alone_in word
command_in (name ∷ word ∷ option ∷ []) = joined_command_in word option
command_in (name ∷ word ∷ option ∷ number ∷ []) = parted_command_in word option number
command_in (name ∷ word ∷ option ∷ number ∷ other ∷ words) = None
