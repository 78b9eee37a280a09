-- Refusals by the sort of their fault.
use Rattle.std.proofs.Common.{◌≡◌, ℕ, refl}
use Rattle.script_files.specs.Sorts.{Grammar, Refused, Sort, sort_of}
use Rattle.script_files.specs.Sorts.{OfWords, OfLine, OfReading, OfWriting, OfMemory, OfSize}
use Rattle.script_files.specs.declared.fault.Fault.{Fault}
use Rattle.script_files.specs.declared.fault.Fault.TheVariants.{Memory, ReadFault}

-- what is decided, and what could not be read, may be told in other words
pub refused_as : (grammar : Grammar) (sort : Sort) (A B C D : Type 0) → (A → C) → (B → D)
    → Refused grammar sort A B → Refused grammar sort C D
refused_as grammar OfWords A B C D decided unread is = absurd is
refused_as grammar (OfLine other) A B C D decided unread is = (is.0, decided is.1)
refused_as grammar OfReading A B C D decided unread is = unread is
refused_as grammar OfWriting A B C D decided unread is = absurd is
refused_as grammar OfMemory A B C D decided unread is = tt
refused_as grammar OfSize A B C D decided unread is = decided is

-- where nothing is decided, and all is read, memory ran out
pub refused_wanting : (grammar : Grammar) (sort : Sort) (A B : Type 0) → (A → ⊥)
    → (sort ≡ OfReading → ⊥) → Refused grammar sort A B → sort ≡ OfMemory
refused_wanting grammar OfWords A B decided read is = absurd is
refused_wanting grammar (OfLine other) A B decided read is = absurd (decided is.1)
refused_wanting grammar OfReading A B decided read is = absurd (read refl)
refused_wanting grammar OfWriting A B decided read is = absurd is
refused_wanting grammar OfMemory A B decided read is = refl
refused_wanting grammar OfSize A B decided read is = absurd (decided is)

-- the one fault of its sort
pub is_memory : (fault : Fault) → sort_of fault ≡ OfMemory → fault ≡ Memory
is_memory Memory is = refl
is_memory fault is = absurd (cc)

-- a fault of reading has a file
pub is_reading : (fault : Fault) → sort_of fault ≡ OfReading
    → (file : ℕ) × (fault ≡ ReadFault file)
is_reading (ReadFault file) is = (file, refl)
is_reading fault is = absurd (cc)
