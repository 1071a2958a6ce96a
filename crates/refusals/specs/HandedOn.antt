-- What `?` hands on: the error of the call before it is the answer. Assumes nothing.
use Rattle.std.specs.Prelude.{◌≡◌, Result, Ok, Err, IsErrAnd}
use Rattle.std.proofs.Common.{ap}

pub handed_on : {A E : Type 0} (answer : Result A E) (error : E) → IsErrAnd answer (λ given. given ≡ error) → answer ≡ Err error
handed_on (Ok value) error gives = absurd gives
handed_on (Err given) error gives = ap Err gives
