-- A working file, which nobody has to believe: where a turn of a run leads, for private clauses alone.
use Rattle.std.specs.Prelude.{◌≡◌, ℕ, Bool, true, false, List, Option}
use Rattle.std.specs.Io.KnownBytes.{IsAtEnd}
use Rattle.jp_answer.specs.FilteredQuery.{FilteredQuery}
use Rattle.jp_run.specs.Manner.{Manner}
use Rattle.jp_run.specs.Begun.{Begun, AllSince}
use Rattle.jp_run.specs.Limits.{window}
use Rattle.jp_run.specs.inner.Ended.{StreamEnded}
use Rattle.jp_run.specs.inner.Standing.{Stands, BeginsPrompt, BeginsNear}
use Rattle.jp_run.specs.declared.fault.RunFault.{RunFault}
use Rattle.jp_run.specs.declared.gathering.Came.{Came}
use Rattle.jp_run.specs.declared.gathering.Came.TheVariants.{More, End, Failure}
use Rattle.jp_run.specs.declared.stream.Stream.{Stream}

-- a run stands somewhere
abbrev pub IsStanding : Manner → FilteredQuery → Option (List ℕ) → Option (List ℕ) → Stream → Type 0
IsStanding going q now sink s = (old : Option (List ℕ)) × (sink_old : Option (List ℕ))
    × Stands going q old now sink_old sink s

-- wherever a run stood, it stands so afterwards
abbrev pub StandsOn : Manner → FilteredQuery → Option (List ℕ) → Option (List ℕ) → Option (List ℕ)
    → Option (List ℕ)
    → Stream → Stream → Type 0
StandsOn going q now new sink sink_new s t = (old sink_old : Option (List ℕ))
    → Stands going q old now sink_old sink s → Stands going q old new sink_old sink_new t

-- wherever a run stood, its end is told truly so
abbrev pub StandsToEnd : Manner → FilteredQuery → Option (List ℕ) → Option (List ℕ) → Option (List ℕ)
    → Option (List ℕ) → Bool → Stream → RunFault → Type 0
StandsToEnd going q now new sink sink_new failed s fault = (old sink_old : Option (List ℕ))
    → (reads_old reads_new : ℕ) → (source_failed : Bool) → Stands going q old now sink_old sink s
    → StreamEnded going q (record {
      source_old = old;
      source_new = new;
      reads_old = reads_old;
      reads_new = reads_new;
      source_failed = source_failed;
      sink_old = sink_old;
      sink_new = sink_new;
      sink_failed = failed;
    }) fault

-- wherever a run stood, and whatever reads were promised so, these too began as it is promised
abbrev pub AllPrompt : Manner → FilteredQuery → Option (List ℕ) → Option (List ℕ) → Stream
    → Option (List Begun)
    → Option (List Begun) → Type 0
AllPrompt going q now sink s reads more = (old sink_old : Option (List ℕ)) → (first : Option (List Begun))
    → Stands going q old now sink_old sink s → AllSince first reads (BeginsPrompt going q old sink_old)
    → AllSince first more (BeginsPrompt going q old sink_old)

abbrev pub AllNear : Manner → FilteredQuery → Option (List ℕ) → Option (List ℕ) → Stream → Option (List Begun)
    → Option (List Begun) → Type 0
AllNear going q now sink s reads more = (old sink_old : Option (List ℕ)) → (first : Option (List Begun))
    → Stands going q old now sink_old sink s → AllSince first reads (BeginsNear window going q old sink_old)
    → AllSince first more (BeginsNear window going q old sink_old)

-- what the last read came to
abbrev pub CameSo : Bool → Option (List ℕ) → Came → Type 0
CameSo failed new More = failed ≡ false
CameSo failed new End = (failed ≡ false) × IsAtEnd new
CameSo failed new Failure = failed ≡ true
