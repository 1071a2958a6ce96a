-- The characters that begin before the byte are counted, and the last of them expects `expected`.
use Rattle.std.proofs.Common.{◌≡◌, ◌+◌, ◌≤◌, drop}
use Rattle.characters.specs.Characters.{characters, characters_from}
use Rattle.characters.proofs.characters.count_chars.Given as goal

abbrev pub invariant-loop-byte : goal.invariant-loop-byte
invariant-loop-byte l = record {
  few : l.count ≤ l.byte-index;
  same : characters l.value ≡ l.count + characters_from l.expected (drop l.byte-index l.value);
}
