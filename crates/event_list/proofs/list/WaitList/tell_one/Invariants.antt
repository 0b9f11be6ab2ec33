use Rattle.event_list.proofs.list.WaitList.tell_one.Given as goal

-- the ledger of the blank
abbrev pub ghosts-tell_one_from : goal.ghosts-tell_one_from
ghosts-tell_one_from g a = record { name = a.blank.name; parts = a.blank.parts }
