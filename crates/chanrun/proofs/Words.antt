-- What the words of a line say.
use Rattle.std.proofs.Common.{◌≡◌, ℕ, ◌-◌, ◌≤◌, ◌==◌, Bor, false, nat_lt, List, [], ◌∷◌, length, map, take, drop, get_or, Some, Result, refl, ap, sym, ◌∙◌, arith}
use Rattle.std.proofs.lemmas.Bool.Decides.{nat_tests}
use Rattle.std.proofs.lemmas.List.{take_rest}
use Rattle.std.specs.List.{slice_split}
use Rattle.channel_model.specs.declared.step.Kind.{Kind}
use Rattle.chanrun.specs.declared.grammar.line.TheConstants.{LINE_LIMIT}
use Rattle.chanrun.specs.declared.grammar.fault.Fault.{Fault}
use Rattle.chanrun.specs.declared.grammar.verb.Verb.{Verb}
use Rattle.chanrun.specs.declared.grammar.word.Word.{Word}
use Rattle.chanrun.specs.Grammar.{verb_of, word_of, command_of, command_with, kind_of, kind_with, words_of}

-- A line's words, as the parts of it that were found.
abbrev pub AreWordsOf : List (Bor (List ℕ)) → List ℕ → Type 0
AreWordsOf parts line = map (λ word. word.now) parts ≡ slice_split (λ byte. byte == 32) line

words_mapped : (parts : List (Bor (List ℕ)))
    → map word_of (map (λ part. part.now) parts) ≡ map (λ part. word_of part.now) parts
words_mapped [] = refl
words_mapped (part ∷ parts) = ap (λ words. word_of part.now ∷ words) (words_mapped parts)

fits : (line : List ℕ) → length line ≤ LINE_LIMIT → nat_lt LINE_LIMIT (length line) ≡ false
fits line short = grind (arith, nat_tests)

-- the first word, and the words behind it as they were read
pub record HasWords (line : List ℕ) (first : List ℕ) (words : List Word) : Type 0 where
  pub others : List (List ℕ)
  pub split : words_of line ≡ first ∷ others
  pub read : words ≡ map word_of others

pub has_words : (line : List ℕ) (parts items : List (Bor (List ℕ))) (d : Bor (List ℕ)) (words : List Word)
    → items ≡ parts → AreWordsOf parts line → 1 ≤ length items
    → words ≡ map (λ part. word_of part.now) (take (length items - 1) (drop 1 items))
    → HasWords line (get_or items 0 d).now words
has_words line parts [] d words same are some read = absurd (omega arith)
has_words line parts (first ∷ others) d words same are some read = record {
  others = map (λ part. part.now) others;
  split = sym are ∙ ap (map (λ part. part.now)) (sym same);
  read = read ∙ (ap (map (λ part. word_of part.now)) (take_rest (first ∷ others) 1) ∙ sym (words_mapped others));
}

pub command_said : (line first : List ℕ) (verb : Verb) (words : List Word) → length line ≤ LINE_LIMIT
    → HasWords line first words
    → Some verb ≡ verb_of first → command_with verb words ≡ command_of line
command_said line first verb words short has is =
    rw (fits line short, has.split, ← is, ← has.read) refl

pub kind_said : (line first : List ℕ) (words others : List Word) (said : Result Kind Fault) → length line ≤ LINE_LIMIT
    → said ≡ kind_with first others → others ≡ words → HasWords line first words → said ≡ kind_of line
kind_said line first words others said short is same has =
    is ∙ (ap (kind_with first) same ∙ (rw (fits line short, has.split, ← has.read) refl))
