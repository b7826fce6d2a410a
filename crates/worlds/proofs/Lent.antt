-- What goes out in a live world that is lent.
use Rattle.std.proofs.Common.{◌≡◌, ℕ, List, [], refl}
use Rattle.acts.specs.Deed.{Deed, Reply, deed_of}
use Rattle.acts.specs.Deed as said
use Rattle.live.specs.Outputs.{err_text, out_text}
use Rattle.records.specs.Sink.{Gets}

-- nothing goes out where there are no more answers
no_out : (deed : Deed) → (out_text deed said.NoMore ≡ []) × (err_text deed said.NoMore ≡ [])
no_out (said.Out text) = (refl, refl)
no_out (said.Err text) = (refl, refl)
no_out (said.Log text) = (refl, refl)
no_out (said.Send id text) = (refl, refl)
no_out (said.Spawn id words) = (refl, refl)
no_out (said.Connect id host port) = (refl, refl)
no_out (said.OpenLog name mode) = (refl, refl)
no_out (said.Close id) = (refl, refl)
no_out (said.Sleep seconds) = (refl, refl)
no_out said.CloseLog = (refl, refl)
no_out (said.Reap id) = (refl, refl)
no_out (said.Wait rows timer) = (refl, refl)

pub gets_nothing : {O E : Type 0} (out : O → List ℕ → O → Type 0) (err : E → List ℕ → E → Type 0)
    (writers : O × E) (deed : Deed) (reply : Reply) → reply ≡ said.NoMore →
    Gets out writers.0 (out_text deed reply) writers.0
    × Gets err writers.1 (err_text deed reply) writers.1
gets_nothing out err writers deed reply none =
    let (no_text, no_error) = no_out deed in
    rw (none, no_text, no_error) (([], refl, refl), ([], refl, refl))
