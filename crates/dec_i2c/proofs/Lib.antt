mod TakenLaws
