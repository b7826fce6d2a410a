-- Which acts a command asks for (this project's own).
use Rattle.std.specs.Prelude.{Bool, true, false}
use Rattle.state.specs.declared.leaf.Leaf.{Leaf}
use Rattle.state.specs.declared.leaf.Leaf.TheVariants.{Has, Asks}
use Rattle.machine.specs.declared.waits.Waits.{Waits}
use Rattle.machine.specs.declared.waits.Waits.TheVariants.{Command, Turn}

-- a command waits for the answer to its act: it is no wait of expect, and no act by which expect
-- shows or logs what has come
abbrev pub is_of_command : {A : Type 0} → Waits A → Bool
is_of_command (Command waits) = true
is_of_command (Turn waits) = false

-- an act is next, and a command asks for it
abbrev pub is_asked : {A : Type 0} → Leaf A (Waits A) → Bool
is_asked (Has outcome) = false
is_asked (Asks act waits) = is_of_command waits
