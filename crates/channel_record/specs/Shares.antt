-- What the callers of a recorder wrote down, against its history.
use Rattle.std.specs.Prelude.{◌≡◌, ◌==◌, ℕ, List, map, codes, Vec, Bool, Option, Some, slice_get, length, nat_lt, if◌then◌else◌}
use Rattle.std.specs.List.{All, count_by, list_all, list_any}
use Rattle.std.specs.List.Sorted.{IsStrictlyIncreasing}
use Rattle.std.specs.declared.alloc.Global.{Global}
use Rattle.channel_model.specs.declared.step.Kind.{Kind}
use Rattle.channel_record.specs.declared.calls.Call.{Call}
use Rattle.channel_record.specs.declared.calls.Outcome.{Outcome}
use Rattle.channel_record.specs.declared.finish.FinishError.{FinishError}
use Rattle.channel_record.specs.declared.finish.FinishError.TheVariants.{Stranger, Missing, Mismatch, OutOfMemory}
use Rattle.channel_record.specs.Histories.{IsLegalHistory, JournalView}

-- What a recorder shows: its stamp, and the kind of its channel.
pub record RecorderView : Type 0 where
  pub stamp : ℕ
  pub kind : Kind

-- It has the number drawn, and the kind asked for.
pub record IsRecorderOf (drawn : Option ℕ) (asked : Kind) (recorder : RecorderView) : Type 0 where
  pub is_drawn : drawn ≡ Some recorder.stamp
  pub is_asked : recorder.kind ≡ asked

-- What a clerk shows: the stamp of its recorder, and its entries, the oldest first. Each has the
-- place in the history, the call and the outcome.
pub record ClerkView (T : Type 0) : Type 0 where
  pub stamp : ℕ
  pub entries : List (ℕ × Call T × Outcome T)

-- whether each of the clerks has the stamp
abbrev pub are_owned : {T : Type 0} → ℕ → List (ClerkView T) → Bool
are_owned stamp clerks = list_all (λ clerk. clerk.stamp == stamp) clerks

-- the place of an entry
abbrev pub place_of : {T : Type 0} → ℕ × Call T × Outcome T → ℕ
place_of entry = entry.0

-- the places of a clerk's entries, in order
abbrev pub places_of : {T : Type 0} → ClerkView T → List ℕ
places_of clerk = map place_of clerk.entries

-- The history has the entry's call and outcome at its place.
abbrev pub IsAt : {T : Type 0} → List (Call T × Outcome T) → ℕ × Call T × Outcome T → Type 0
IsAt history entry = slice_get history entry.0 ≡ Some (entry.1, entry.2)

-- The history has each of the clerk's entries at its place.
abbrev pub AgreesWith : {T : Type 0} → List (Call T × Outcome T) → ClerkView T → Type 0
AgreesWith history clerk = All (IsAt history) clerk.entries

-- whether a place is among these places
abbrev pub holds : ℕ → List ℕ → Bool
holds place places = list_any (λ other. other == place) places

-- Each place below the count lies in exactly one of the lists, no other place lies in any, and each
-- list rises.
pub record AreShares (count : ℕ) (lists : List (List ℕ)) : Type 0 where
  pub in_one : (place : ℕ) → count_by (holds place) lists ≡ (if nat_lt place count then 1 else 0)
  pub rising : All IsStrictlyIncreasing lists

-- what the vectors of places hold
abbrev pub lists_of : List (Vec ℕ Global) → List (List ℕ)
lists_of lists = map (λ list. list.items) lists

-- What a book shows: the kind of the channel, the history, and the places of each clerk's calls in
-- it.
pub record BookView (T : Type 0) : Type 0 where
  pub kind : Kind
  pub history : List (Call T × Outcome T)
  pub places : List (List ℕ)

-- The history is what the clerks wrote down: each of its calls stands in one clerk's list, once,
-- with its own place and outcome, nothing else stands in any, and each list is in the order of the
-- history.
pub record IsWrittenDown {T : Type 0} (history : List (Call T × Outcome T))
    (clerks : List (ClerkView T)) : Type 0 where
  pub shares : AreShares (length history) (map places_of clerks)
  pub agree : All (AgreesWith history) clerks

-- The journal is of the kind asked for, and its history is what the clerks wrote down.
pub record Matches {T : Type 0} (asked : Kind) (clerks : List (ClerkView T))
    (journal : JournalView T) : Type 0 where
  pub is_asked : journal.kind ≡ asked
  pub written : IsWrittenDown journal.history clerks

-- The book of a channel of this kind and of these clerks: one history that such a channel could
-- have, which is what the clerks wrote down, and the places of each clerk's own calls in it.
pub record IsBookOf {T : Type 0} (asked : Kind) (clerks : List (ClerkView T))
    (book : BookView T) : Type 0 where
  pub is_asked : book.kind ≡ asked
  pub legal : IsLegalHistory book.kind book.history
  pub written : IsWrittenDown book.history clerks
  pub places : book.places ≡ map places_of clerks

-- what `Display` writes if there is no book
abbrev pub finish_text : FinishError → List ℕ
finish_text Stranger = codes "a clerk is of another recorder"
finish_text Missing = codes "a clerk is missing"
finish_text Mismatch = codes "the entries don't agree"
finish_text OutOfMemory = codes "out of memory"

-- what `Debug` writes of it
abbrev pub finish_debug : FinishError → List ℕ
finish_debug Stranger = codes "Stranger"
finish_debug Missing = codes "Missing"
finish_debug Mismatch = codes "Mismatch"
finish_debug OutOfMemory = codes "OutOfMemory"
