mod Larger
