-- A text is UTF-8.
use Rattle.std.proofs.lemmas.Str.{is_utf8-from_IsUtf8}

pub ruleset names = (is_utf8-from_IsUtf8)
