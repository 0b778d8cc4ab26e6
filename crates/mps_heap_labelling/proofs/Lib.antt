mod Interning
