-- The two kinds of marks by which somebody can be woken.
use Rattle.std.specs.Prelude.{Bool, true, false}
use Rattle.ruled_channel.specs.declared.mark.Mark.{Mark}
use Rattle.ruled_channel.specs.declared.mark.Mark.TheVariants.{Task, Thread}

abbrev pub is_of_task : Mark → Bool
is_of_task (Task waker) = true
is_of_task (Thread cell) = false

abbrev pub is_of_thread : Mark → Bool
is_of_thread (Task waker) = false
is_of_thread (Thread cell) = true
