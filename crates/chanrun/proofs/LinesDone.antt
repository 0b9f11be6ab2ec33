-- What holds between the lines of a script.
use Rattle.std.proofs.Common.{◌≡◌, ℕ, ◌+◌, ◌<◌, List, [], ◌∷◌, ◌++◌, drop, get_or, length, map, Err, None, Some, Option, refl, ap, sym, ◌∙◌, subst}
use Rattle.std.proofs.lemmas.List.{append-nil, append_assoc, drop_more}
use Rattle.std.specs.Io.KnownBytes.{Appends}
use Rattle.channel_model.specs.View.{View}
use Rattle.channel_model.specs.declared.step.Kind.{Kind}
use Rattle.channel_model.specs.Past.{Past}
use Rattle.channel_run.specs.StandsFor.{StandsFor}
use Rattle.chanrun.specs.Device.{one_more}
use Rattle.chanrun.specs.Script.{command_text, past_after_command, texts_after}
use Rattle.chanrun.specs.Stages.{IsAnswered}
use Rattle.chanrun.specs.declared.grammar.command.Command.{Command}
use Rattle.chanrun.specs.declared.grammar.fault.Fault.{Fault}
use Rattle.chanrun.specs.declared.script.ScriptError.{ScriptError}
use Rattle.chanrun.specs.declared.script.ScriptError.TheVariants.{Fault as FaultAt, Read, Write, OutOfMemory, TooLong}
use Rattle.chanrun.proofs.Known.{appends_none, appends_more, front_behind, front_more}

-- A past stands for the run, and what was written with what is due for the commands that are left
-- makes the text of all. The writer's bytes and its count of failures were a and old, and are b and
-- new.
pub record AreDone (kind : Kind) (run : View ℕ) (all left : List Command)
    (a b : Option (List ℕ)) (old new : ℕ) : Type 0 where
  pub past : Past ℕ
  pub done : List ℕ
  pub stands : StandsFor kind past run
  pub text : done ++ texts_after kind past left ≡ texts_after kind [] all
  pub written : Appends a b done
  pub well : new ≡ old

-- the next of the lines that are left
pub one_left : {X : Type 0} (f : X → Command) (lines : List X) (index : ℕ) (other : X) → index < length lines
    → map f (drop index lines) ≡ f (get_or lines index other) ∷ map f (drop (index + 1) lines)
one_left f lines index other less = ap (map f) (drop_more lines index other less)

pub none_done : (kind : Kind) (run : View ℕ) (all : List Command) (a : Option (List ℕ)) (old : ℕ)
    → StandsFor kind [] run → AreDone kind run all all a a old old
none_done kind run all a old stands = record {
  past = [];
  done = [];
  stands = stands;
  text = refl;
  written = appends_none a;
  well = refl;
}

pub one_more_done : (kind : Kind) (run run' : View ℕ) (all left left' : List Command) (command : Command)
    (a b c : Option (List ℕ)) (f g h : ℕ)
    → (is : AreDone kind run all left a b f g)
    → left ≡ command ∷ left'
    → StandsFor kind (past_after_command kind is.past command) run'
    → Appends b c (command_text kind is.past command)
    → h ≡ g
    → AreDone kind run' all left' a c f h
one_more_done kind run run' all left left' command a b c f g h is lines stands more kept = record {
  past = past_after_command kind is.past command;
  done = is.done ++ command_text kind is.past command;
  stands = stands;
  text = append_assoc is.done (command_text kind is.past command) _
      ∙ (ap (λ commands. is.done ++ texts_after kind is.past commands) (sym lines) ∙ is.text);
  written = appends_more a b c is.done _ is.written more;
  well = kept ∙ is.well;
}

none_some : (at : ℕ × Fault) → None ≡ Some at → ⊥
none_some at is = cc

-- behind what was written already, an end at a line is an end of the whole
ended_behind : (e : ScriptError) (a b c : Option (List ℕ)) (xs ys zs : List ℕ) (f g h : ℕ)
    → Appends a b xs → g ≡ f
    → IsAnswered None ys (Err e) b c g h → IsAnswered None (xs ++ (ys ++ zs)) (Err e) a c f h
ended_behind (FaultAt line what) a b c xs ys zs f g h done well k = absurd (none_some (line, what) k.0)
ended_behind Write a b c xs ys zs f g h done well k = (front_behind a b c xs (ys ++ zs) done (front_more b c ys zs k.0), k.1 ∙ ap one_more well)
ended_behind OutOfMemory a b c xs ys zs f g h done well k = front_behind a b c xs (ys ++ zs) done (front_more b c ys zs k)
ended_behind Read a b c xs ys zs f g h done well k = absurd k
ended_behind TooLong a b c xs ys zs f g h done well k = absurd k

pub ended_at_line : (kind : Kind) (run : View ℕ) (all left left' : List Command) (command : Command)
    (a b c : Option (List ℕ)) (f g h : ℕ) (e : ScriptError)
    → (is : AreDone kind run all left a b f g)
    → left ≡ command ∷ left'
    → IsAnswered None (command_text kind is.past command) (Err e) b c g h
    → IsAnswered None (texts_after kind [] all) (Err e) a c f h
ended_at_line kind run all left left' command a b c f g h e is lines answered =
    subst (λ (text : List ℕ). IsAnswered None text (Err e) a c f h)
    (ap (λ commands. is.done ++ texts_after kind is.past commands) (sym lines) ∙ is.text)
    (ended_behind e a b c is.done (command_text kind is.past command) _ f g h is.written is.well answered)

pub all_done : (kind : Kind) (run : View ℕ) (all : List Command) (a b : Option (List ℕ)) (old new : ℕ)
    → AreDone kind run all [] a b old new
    → Appends a b (texts_after kind [] all) × (new ≡ old)
all_done kind run all a b old new is =
    (subst (λ (text : List ℕ). Appends a b text) (sym (append-nil is.done) ∙ is.text) is.written, is.well)

-- if no line was faulty so far, a write that failed or want of memory is the end of the script
pub ended_before : (fault : Option (ℕ × Fault)) (e : ScriptError) (a b : Option (List ℕ)) (text : List ℕ) (old new : ℕ)
    → IsAnswered None text (Err e) a b old new → IsAnswered fault text (Err e) a b old new
ended_before fault (FaultAt line what) a b text old new k = absurd (none_some (line, what) k.0)
ended_before fault Write a b text old new k = k
ended_before fault OutOfMemory a b text old new k = k
ended_before fault Read a b text old new k = absurd k
ended_before fault TooLong a b text old new k = absurd k
