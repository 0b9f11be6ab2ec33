use Rattle.event_list.proofs.list.WaitList.is_told.Given as goal

-- the ledger of the blank
abbrev pub ghosts-entry_from : goal.ghosts-entry_from
ghosts-entry_from g a = record { name = a.blank.name; parts = a.blank.parts }
