mod Stacked
