-- What is promised of a file that was read: no more bytes than there was space for. Which bytes they are, no contract can say. Assumes nothing.
--
--   Within read space   a file that was read has at most so many bytes
--   bytes-within        so many, where they were read
use Rattle.std.specs.Borrow.{Bor}
use Rattle.std.specs.Prelude.{◌≡◌, ℕ, ◌≤◌, List, length, Option, None, Some}

abbrev pub Within : Option (Bor (List ℕ)) → ℕ → Type 0
Within (Some bytes) space = length bytes.now ≤ space
Within None space = Unit {0}

pub bytes_within : (read : Option (Bor (List ℕ))) (space : ℕ) (bytes : Bor (List ℕ)) → read ≡ Some bytes → Within read space → length bytes.now ≤ space
bytes_within read space bytes is within = rw is at within
