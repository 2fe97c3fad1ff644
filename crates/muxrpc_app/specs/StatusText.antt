-- Exit statuses, and the lines of standard error.
use Rattle.std.specs.Prelude.{ℕ, List, [], ◌∷◌, ◌++◌, codes}
use Rattle.std.specs.List.{flat_map}
use Rattle.std.specs.Fmt.{decimal}
use Rattle.wire_base.specs.Numbers.{reason_number, reason_name}
use Rattle.muxrpc_app.specs.declared.status.Status.{Status}
use Rattle.muxrpc_app.specs.declared.status.Status.TheVariants as status

abbrev pub status_code : Status → ℕ
status_code status.Done = 0
status_code status.Usage = 1
status_code (status.ScriptRefused line number) = 2
status_code (status.StreamRefused place reason) = 3
status_code status.ReadFault = 4
status_code status.WriteFault = 5
status_code status.LinkFault = 6
status_code status.OutOfMemory = 7
status_code status.TooLong = 8
status_code status.LinkEnded = 9

-- what is told of a status, in parts
abbrev pub status_parts : Status → List (List ℕ)
status_parts status.Done = []
status_parts status.Usage = codes "usage" ∷ []
status_parts (status.ScriptRefused line number) = codes "line " ∷ decimal line ∷ codes ": " ∷ decimal number ∷ []
status_parts (status.StreamRefused place reason) =
    codes "refused at " ∷ decimal place.0 ∷ codes ": " ∷ decimal (reason_number reason) ∷ codes " " ∷ reason_name reason ∷ []
status_parts status.ReadFault = codes "read fault" ∷ []
status_parts status.WriteFault = codes "write fault" ∷ []
status_parts status.LinkFault = codes "link fault" ∷ []
status_parts status.OutOfMemory = codes "out of memory" ∷ []
status_parts status.TooLong = codes "too long" ∷ []
status_parts status.LinkEnded = codes "link ended" ∷ []

-- parts behind the program's name, as a line
abbrev pub told : List (List ℕ) → List ℕ
told parts = flat_map (λ part. part) (codes "muxrpc: " ∷ parts ++ codes "\n" ∷ [])

-- the line of a status; there is none where all went well
abbrev pub status_text : Status → List ℕ
status_text status.Done = []
status_text s = told (status_parts s)
