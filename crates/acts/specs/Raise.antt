-- What the parts of commands answer: a value, the script's error, or that memory was refused.
use Rattle.std.specs.Prelude.{◌≡◌, Result, Ok, Err}
use Rattle.acts.specs.Flaw.{Flaw, flaw_of}
use Rattle.acts.specs.declared.raise.Raise.{Raise}
use Rattle.acts.specs.declared.raise.Raise.TheVariants as raise

-- a value is passed to the next step; an error is passed on (this project's own rule)
abbrev pub bind : {X Y : Type 0} → Result X Flaw → (X → Result Y Flaw) → Result Y Flaw
bind (Ok x) next = next x
bind (Err flaw) next = Err flaw

-- no answer was given for want of memory (this project's own rule)
abbrev pub WantsMemory : {A : Type 0} → Raise A → Type 0
WantsMemory (raise.Fault why) = ⊥
WantsMemory (raise.NoMemory refusal) = Unit {0}

-- what is raised is this error, unless memory was refused (this project's own rule)
abbrev pub Raises : {A : Type 0} → Flaw → Raise A → Type 0
Raises flaw (raise.Fault why) = flaw_of why ≡ flaw
Raises flaw (raise.NoMemory refusal) = Unit {0}

-- the meant result is the error that is raised, unless memory was refused (this project's own rule)
abbrev pub Fails : {A X : Type 0} → Result X Flaw → Raise A → Type 0
Fails meant (raise.Fault why) = meant ≡ Err (flaw_of why)
Fails meant (raise.NoMemory refusal) = Unit {0}

-- the answer is the meant result, unless memory was refused (this project's own rule)
abbrev pub Answers : {A X Y : Type 0} → (Y → X) → Result X Flaw → Result Y (Raise A) → Type 0
Answers view meant (Ok y) = meant ≡ Ok (view y)
Answers view meant (Err why) = Fails meant why
