-- What a script's bytes say: its lines, their words, numbers and names, and the command or the
-- fault of a line.
use Rattle.std.specs.Prelude.{ℕ, ◌+◌, ◌-◌, ◌*◌, ◌^◌, ◌==◌, Bool, true, false, ◌&&◌, not, if◌then◌else◌, nat_lt, nat_le, nat_eq, List, [], ◌∷◌, length, drop, map, codes, None, Some, Option, option_map, unwrap_or, Result, Ok, Err}
use Rattle.std.specs.List.{slice_split, onto_first, starts_with}
use Rattle.std.specs.Option.{option_or}
use Rattle.std.specs.Str.{bytes_eq}
use Rattle.channel_model.specs.declared.step.Kind.{Kind}
use Rattle.channel_model.specs.declared.step.Kind.TheVariants.{Bounded, Unbounded}
use Rattle.channel_model.specs.declared.step.Side.{Side}
use Rattle.channel_model.specs.declared.step.Side.TheVariants.{Sender as SenderSide, Receiver as ReceiverSide}
use Rattle.channel_model.specs.declared.step.Who.{Who}
use Rattle.channel_model.specs.declared.step.Who.TheVariants.{Op as OpWho, Receiver as StreamOf}
use Rattle.channel_model.specs.declared.step.Step.{Step}
use Rattle.channel_model.specs.declared.step.Step.TheVariants.{TrySend, ForceSend, TryRecv, Close, IsClosed, IsEmpty, IsFull, IsTerminated, Len, SenderCount, ReceiverCount, Capacity, CloneSender, CloneReceiver, CloneWeakSender, CloneWeakReceiver, DowngradeSender, DowngradeReceiver, UpgradeSender, UpgradeReceiver, DropSender, DropReceiver, DropWeakSender, DropWeakReceiver, StartSend, StartRecv, StartClosed, Poll, PollNext, DropOp}
use Rattle.chanrun.specs.declared.grammar.line.TheConstants.{LINE_LIMIT}
use Rattle.chanrun.specs.declared.grammar.word.TheConstants.{CAPACITY_LIMIT}
use Rattle.chanrun.specs.declared.grammar.command.Command.{Command}
use Rattle.chanrun.specs.declared.grammar.command.Command.TheVariants.{Make, Notice, Settle}
use Rattle.chanrun.specs.declared.grammar.verb.Verb.{Verb}
use Rattle.chanrun.specs.declared.grammar.verb.Verb.TheVariants as verb
use Rattle.chanrun.specs.declared.grammar.verb.VerbOnOne.{VerbOnOne}
use Rattle.chanrun.specs.declared.grammar.verb.VerbOnOne.TheVariants as verb1
use Rattle.chanrun.specs.declared.grammar.verb.VerbOnTwo.{VerbOnTwo}
use Rattle.chanrun.specs.declared.grammar.verb.VerbOnTwo.TheVariants as verb2
use Rattle.chanrun.specs.declared.grammar.fault.Fault.{Fault}
use Rattle.chanrun.specs.declared.grammar.fault.Fault.TheVariants.{LineTooLong, ChannelMissing, UnknownCommand, WrongWordCount, BadName, BadNumber, CapacityZero, CapacityTooLarge}
use Rattle.chanrun.specs.declared.grammar.word.Word.{Word}
use Rattle.chanrun.specs.declared.grammar.word.Word.TheVariants.{Number, Sender, Receiver, WeakSender, WeakReceiver, Op, Other}

-- ---- lines, words, numbers and names

-- Each line ends with the byte 10. What stands after the last of these is a line too, if it has
-- a byte.
abbrev pub lines_of : List ℕ → List (List ℕ)
lines_of [] = []
lines_of (b ∷ bs) = if b == 10 then [] ∷ lines_of bs else onto_first b (lines_of bs)

-- The parts of a line between single spaces. Any of them may be empty.
abbrev pub words_of : List ℕ → List (List ℕ)
words_of line = slice_split (λ b. b == 32) line

abbrev pub is_digit : ℕ → Bool
is_digit b = nat_le 48 b && nat_le b 57

abbrev pub all_digits : List ℕ → Bool
all_digits [] = true
all_digits (b ∷ bs) = is_digit b && all_digits bs

-- `0`, or a digit from 1 to 9 and then digits
abbrev pub is_numeral : List ℕ → Bool
is_numeral [] = false
is_numeral (b ∷ []) = is_digit b
is_numeral (b ∷ c ∷ bs) = not (b == 48) && all_digits (b ∷ c ∷ bs)

-- the digits as a number, after those that gave this one
abbrev pub value_after : ℕ → List ℕ → ℕ
value_after n [] = n
value_after n (b ∷ bs) = value_after (n * 10 + (b - 48)) bs

-- the number of 64 bits that a word spells
abbrev pub number_of : List ℕ → Option ℕ
number_of word =
    if is_numeral word && nat_lt (value_after 0 word) (2 ^ 64) then Some (value_after 0 word)
    else None

-- the number after these letters, if a word begins with them
abbrev pub name_of : (letters : List ℕ) → List ℕ → Option ℕ
name_of letters word =
    if starts_with nat_eq word letters then number_of (drop (length letters) word) else None

-- A word is a number, a name of one of the five kinds, or neither.
abbrev pub word_of : List ℕ → Word
word_of word =
    unwrap_or (option_map Number (number_of word))
    (unwrap_or (option_map Sender (name_of (codes "s") word))
    (unwrap_or (option_map Receiver (name_of (codes "r") word))
    (unwrap_or (option_map WeakSender (name_of (codes "ws") word))
    (unwrap_or (option_map WeakReceiver (name_of (codes "wr") word))
    (unwrap_or (option_map Op (name_of (codes "o") word))
    Other)))))

-- ---- what a place of a command asks for

-- a number
abbrev pub number_in : Word → Result ℕ Fault
number_in (Number number) = Ok number
number_in word = Err BadNumber

-- the name of a sender
abbrev pub sender_in : Word → Result ℕ Fault
sender_in (Sender name) = Ok name
sender_in word = Err BadName

-- the name of a receiver
abbrev pub receiver_in : Word → Result ℕ Fault
receiver_in (Receiver name) = Ok name
receiver_in word = Err BadName

-- the name of a weak sender
abbrev pub weak_sender_in : Word → Result ℕ Fault
weak_sender_in (WeakSender name) = Ok name
weak_sender_in word = Err BadName

-- the name of a weak receiver
abbrev pub weak_receiver_in : Word → Result ℕ Fault
weak_receiver_in (WeakReceiver name) = Ok name
weak_receiver_in word = Err BadName

-- the name of an operation
abbrev pub op_in : Word → Result ℕ Fault
op_in (Op name) = Ok name
op_in word = Err BadName

-- the name of a sender or a receiver
abbrev pub side_in : Word → Result Side Fault
side_in (Sender name) = Ok (SenderSide name)
side_in (Receiver name) = Ok (ReceiverSide name)
side_in word = Err BadName

-- the name of an operation, or of the receiver of a stream
abbrev pub who_in : Word → Result Who Fault
who_in (Op name) = Ok (OpWho name)
who_in (Receiver name) = Ok (StreamOf name)
who_in word = Err BadName

-- ---- what the words of a command make

-- what is made of a word
abbrev pub with_one : {A B : Type 0} → (A → B) → Result A Fault → Result B Fault
with_one make (Ok first) = Ok (make first)
with_one make (Err fault) = Err fault

-- What is made of two words. The left one's fault comes first.
abbrev pub with_two : {A B C : Type 0} → (A → B → C) → Result A Fault → Result B Fault
    → Result C Fault
with_two make (Err fault) second = Err fault
with_two make (Ok first) second = with_one (make first) second

-- what is made of three words
abbrev pub with_three : {A B C D : Type 0} → (A → B → C → D) → Result A Fault → Result B Fault
    → Result C Fault
    → Result D Fault
with_three make (Err fault) second third = Err fault
with_three make (Ok first) second third = with_two (make first) second third

-- A copy has a name of the same kind.
abbrev pub clone_step : Word → (new : Word) → Result (Step ℕ) Fault
clone_step (Sender of) new = with_one (CloneSender of) (sender_in new)
clone_step (Receiver of) new = with_one (CloneReceiver of) (receiver_in new)
clone_step (WeakSender of) new = with_one (CloneWeakSender of) (weak_sender_in new)
clone_step (WeakReceiver of) new = with_one (CloneWeakReceiver of) (weak_receiver_in new)
clone_step word new = Err BadName

-- A sender gives a weak sender, a receiver a weak receiver.
abbrev pub downgrade_step : Word → (new : Word) → Result (Step ℕ) Fault
downgrade_step (Sender of) new = with_one (DowngradeSender of) (weak_sender_in new)
downgrade_step (Receiver of) new = with_one (DowngradeReceiver of) (weak_receiver_in new)
downgrade_step word new = Err BadName

-- A weak sender gives a sender, a weak receiver a receiver.
abbrev pub upgrade_step : Word → (new : Word) → Result (Step ℕ) Fault
upgrade_step (WeakSender of) new = with_one (UpgradeSender of) (sender_in new)
upgrade_step (WeakReceiver of) new = with_one (UpgradeReceiver of) (receiver_in new)
upgrade_step word new = Err BadName

-- Anything that has a name is given up.
abbrev pub drop_step : Word → Result (Step ℕ) Fault
drop_step (Sender name) = Ok (DropSender name)
drop_step (Receiver name) = Ok (DropReceiver name)
drop_step (WeakSender name) = Ok (DropWeakSender name)
drop_step (WeakReceiver name) = Ok (DropWeakReceiver name)
drop_step (Op name) = Ok (DropOp name)
drop_step word = Err BadName

-- what a line asks for that makes a step
abbrev pub made : Result (Step ℕ) Fault → Result Command Fault
made step = with_one Make step

-- A verb with the one word after it. H below is a sender or a receiver.
abbrev pub on_one : VerbOnOne → Word → Result Command Fault
on_one verb1.TryRecv r = made (with_one TryRecv (receiver_in r))
on_one verb1.Close h = made (with_one Close (side_in h))
on_one verb1.IsClosed h = made (with_one IsClosed (side_in h))
on_one verb1.IsEmpty h = made (with_one IsEmpty (side_in h))
on_one verb1.IsFull h = made (with_one IsFull (side_in h))
on_one verb1.Len h = made (with_one Len (side_in h))
on_one verb1.Capacity h = made (with_one Capacity (side_in h))
on_one verb1.Senders h = made (with_one SenderCount (side_in h))
on_one verb1.Receivers h = made (with_one ReceiverCount (side_in h))
on_one verb1.IsTerminated r = made (with_one IsTerminated (receiver_in r))
on_one verb1.Drop name = made (drop_step name)
on_one verb1.Poll o = made (with_one Poll (op_in o))
on_one verb1.Next r = made (with_one PollNext (receiver_in r))
on_one verb1.Notice who = with_one Notice (who_in who)

-- A verb with the two words after it.
abbrev pub on_two : VerbOnTwo → Word → Word → Result Command Fault
on_two verb2.TrySend s m = made (with_two TrySend (sender_in s) (number_in m))
on_two verb2.ForceSend s m = made (with_two ForceSend (sender_in s) (number_in m))
on_two verb2.Clone of new = made (clone_step of new)
on_two verb2.Downgrade of new = made (downgrade_step of new)
on_two verb2.Upgrade of new = made (upgrade_step of new)
on_two verb2.Recv o r = made (with_two StartRecv (op_in o) (receiver_in r))
on_two verb2.Closed o s = made (with_two StartClosed (op_in o) (sender_in s))

-- A verb with the words after it: each verb has its number of words.
abbrev pub command_with : Verb → List Word → Result Command Fault
command_with verb.Settle [] = Ok Settle
command_with (verb.One verb) (word ∷ []) = on_one verb word
command_with (verb.Two verb) (first ∷ second ∷ []) = on_two verb first second
command_with verb.Send (o ∷ s ∷ m ∷ []) =
    made (with_three StartSend (op_in o) (sender_in s) (number_in m))
command_with verb words = Err WrongWordCount

-- ---- lines

-- the verbs with one word after them
abbrev pub one_word_verb : List ℕ → Option VerbOnOne
one_word_verb word =
    if bytes_eq word (codes "try_recv") then Some verb1.TryRecv
    else if bytes_eq word (codes "close") then Some verb1.Close
    else if bytes_eq word (codes "is_closed") then Some verb1.IsClosed
    else if bytes_eq word (codes "is_empty") then Some verb1.IsEmpty
    else if bytes_eq word (codes "is_full") then Some verb1.IsFull
    else if bytes_eq word (codes "len") then Some verb1.Len
    else if bytes_eq word (codes "capacity") then Some verb1.Capacity
    else if bytes_eq word (codes "senders") then Some verb1.Senders
    else if bytes_eq word (codes "receivers") then Some verb1.Receivers
    else if bytes_eq word (codes "is_terminated") then Some verb1.IsTerminated
    else if bytes_eq word (codes "drop") then Some verb1.Drop
    else if bytes_eq word (codes "poll") then Some verb1.Poll
    else if bytes_eq word (codes "next") then Some verb1.Next
    else if bytes_eq word (codes "notice") then Some verb1.Notice
    else None

-- the verbs with two words after them
abbrev pub two_word_verb : List ℕ → Option VerbOnTwo
two_word_verb word =
    if bytes_eq word (codes "try_send") then Some verb2.TrySend
    else if bytes_eq word (codes "force_send") then Some verb2.ForceSend
    else if bytes_eq word (codes "clone") then Some verb2.Clone
    else if bytes_eq word (codes "downgrade") then Some verb2.Downgrade
    else if bytes_eq word (codes "upgrade") then Some verb2.Upgrade
    else if bytes_eq word (codes "recv") then Some verb2.Recv
    else if bytes_eq word (codes "closed") then Some verb2.Closed
    else None

-- the verb that a line begins with, if it is one
abbrev pub verb_of : List ℕ → Option Verb
verb_of word =
    if bytes_eq word (codes "settle") then Some verb.Settle
    else if bytes_eq word (codes "send") then Some verb.Send
    else option_or (option_map verb.One (one_word_verb word))
    (option_map verb.Two (two_word_verb word))

-- the command of a verb, if there is one
abbrev pub command_by : Option Verb → List Word → Result Command Fault
command_by None words = Err UnknownCommand
command_by (Some verb) words = command_with verb words

-- the command that words say, or their first fault
abbrev pub command_in : List (List ℕ) → Result Command Fault
command_in [] = Err UnknownCommand
command_in (verb ∷ words) = command_by (verb_of verb) (map word_of words)

-- what the words of a line within the limit say
abbrev pub within_limit : {A : Type 0} → List ℕ → (List (List ℕ) → Result A Fault) → Result A Fault
within_limit line read =
    if nat_lt LINE_LIMIT (length line) then Err LineTooLong else read (words_of line)

-- The command that a line after the first says, or its first fault.
abbrev pub command_of : List ℕ → Result Command Fault
command_of line = within_limit line command_in

-- ---- the first line

-- a capacity, from 1 to the greatest
abbrev pub capacity_in : Word → Result Kind Fault
capacity_in (Number number) =
    if number == 0 then Err CapacityZero
    else if nat_lt CAPACITY_LIMIT number then Err CapacityTooLarge
    else Ok (Bounded number)
capacity_in word = Err BadNumber

-- `bounded` has a capacity
abbrev pub bounded_with : List Word → Result Kind Fault
bounded_with (word ∷ []) = capacity_in word
bounded_with words = Err WrongWordCount

-- `unbounded` has nothing
abbrev pub unbounded_with : List Word → Result Kind Fault
unbounded_with [] = Ok Unbounded
unbounded_with words = Err WrongWordCount

-- `bounded` or `unbounded`, with the words after it
abbrev pub kind_with : List ℕ → List Word → Result Kind Fault
kind_with kind words =
    if bytes_eq kind (codes "bounded") then bounded_with words
    else if bytes_eq kind (codes "unbounded") then unbounded_with words
    else Err ChannelMissing

-- the channel that words ask for, or their first fault
abbrev pub kind_in : List (List ℕ) → Result Kind Fault
kind_in [] = Err ChannelMissing
kind_in (kind ∷ words) = kind_with kind (map word_of words)

-- The channel that the first line asks for, or its first fault.
abbrev pub kind_of : List ℕ → Result Kind Fault
kind_of line = within_limit line kind_in
