use Rattle.handle_set.proofs.members.member.Given as goal

abbrev pub ghosts-look_with : goal.ghosts-look_with
ghosts-look_with a = record { name = a.blank.name; parts = a.blank.parts }
